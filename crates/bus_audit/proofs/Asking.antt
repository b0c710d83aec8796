-- With the pulse that a trace dictates, and none before it that still counts, the same chip's interrupt is taken.
use Rattle.std.proofs.Common.{◌≡◌, ℕ, ◌+◌, ◌<◌, ◌≤◌, ◌==◌, ◌&&◌, ◌||◌, ◌⊎◌, Bool, true, false, List, [], ◌∷◌, refl, ◌∙◌, ap, sym}
use Rattle.std.proofs.Common.{Option, Some, None, inl, inr, arith, eq-eqb, add-one, subst, ◌-◌}
use Rattle.std.proofs.lemmas.Bool.{eqb-true}
use Rattle.std.proofs.lemmas.Bool.Decides.{nat_tests}
use Rattle.std.specs.Prelude.{nat_lt, nat_le, not, if◌then◌else◌, slice_get, option_map}
use Rattle.std.specs.List.{AllByRecursion}
use Rattle.f8_spec.specs.BusArbitration.{Seat}
use Rattle.f8_spec.specs.ChipState.{admits_pulses, admits_expiries}
use Rattle.f8_spec.specs.Instructions.{is_shielding}
use Rattle.f8_spec.specs.declared.instructions.Op.{Op}
use Rattle.console_spec.specs.FlatStep.{chosen_at, with_acknowledged}
use Rattle.console_spec.specs.InterruptChoice.{control_of, first_asking, has_request_by, is_asking_in, is_asking_at}
use Rattle.console_spec.specs.InterruptRequests.{Mark, History, has_mark, has_expiry, since_of, with_mark, control_port, effect_time}
use Rattle.console_spec.specs.InterruptRequests.{timer_port, last_write_time, last_mark_time}
use Rattle.console_spec.specs.Writes.{latch_of}
use Rattle.console_spec.specs.declared.PortWrite.{PortWrite}
use Rattle.bus_audit.specs.Choices.{takes_pulse, place_in_chain, pulse_to, pulse_by}
use Rattle.bus_audit.proofs.FreeInputs.{marked, pulses_after}

-- ---- the first chip that asks

first_asks : (seats : List Seat) (h : History) (time : ℕ) (chain : List ℕ) (socket : ℕ) → first_asking seats h time chain ≡ Some socket →
    is_asking_at seats h time socket ≡ true
first_asks seats h time [] socket is = absurd (cc)
first_asks seats h time (s ∷ later) socket is = by (is_asking_at seats h time s) refl is (first_asks seats h time later socket)
  where
    by : (asks : Bool) → is_asking_at seats h time s ≡ asks → (if asks then Some s else first_asking seats h time later) ≡ Some socket →
        (first_asking seats h time later ≡ Some socket → is_asking_at seats h time socket ≡ true) → is_asking_at seats h time socket ≡ true
    by true asks here behind = let same : s ≡ socket = cc in rw (sym same) asks
    by false asks here behind = behind here

-- by a second history: no chip asks then that is not the first one and didn't ask before, and the first one still asks
module _ (seats : List Seat) (h k : History) (time : ℕ) (chosen : Option ℕ)
    (no_more : (s : ℕ) → is_asking_at seats k time s ≡ true → (chosen ≡ Some s) ⊎ (is_asking_at seats h time s ≡ true))
    (still : (s : ℕ) → chosen ≡ Some s → is_asking_at seats h time s ≡ true → is_asking_at seats k time s ≡ true) where
  pub first_same : (chain : List ℕ) → first_asking seats h time chain ≡ chosen → first_asking seats k time chain ≡ chosen
  first_same [] is = is
  first_same (s ∷ later) is = by (is_asking_at seats h time s) (is_asking_at seats k time s) refl refl is (first_same later)
    where
      by : (before now : Bool) → is_asking_at seats h time s ≡ before → is_asking_at seats k time s ≡ now →
          (if before then Some s else first_asking seats h time later) ≡ chosen →
          (first_asking seats h time later ≡ chosen → first_asking seats k time later ≡ chosen) →
          (if now then Some s else first_asking seats k time later) ≡ chosen
      by true true e f here behind = here
      by true false e f here behind = let asks : is_asking_at seats k time s ≡ true = still s (sym here) e in absurd (cc)
      by false false e f here behind = behind here
      by false true e f here behind = elim (no_more s f) [
        | inl is_first ↦
            let asks : is_asking_at seats h time s ≡ true = first_asks seats h time later s (here ∙ is_first) in absurd (cc)
        | inr asks ↦ absurd (cc)
      ]

-- ---- its place in the chain

pub record HasPlace (socket : ℕ) (chain : List ℕ) : Type 0 where
  pub place : ℕ
  pub is : place_in_chain socket chain ≡ Some place
  pub there : slice_get chain place ≡ Some socket

place_first : (socket : ℕ) (later : List ℕ) → HasPlace socket (socket ∷ later)
place_first socket later = record { place = 0; is = rw (eq-eqb socket socket refl) refl; there = refl }

place_later : (socket s : ℕ) (later : List ℕ) → HasPlace socket later → HasPlace socket (s ∷ later)
place_later socket s later has = by (s == socket) refl
  where
    by : (here : Bool) → (s == socket) ≡ here → HasPlace socket (s ∷ later)
    by true e = record {
      place = 0;
      is = rw e refl;
      there = ap (λ (n : ℕ). Some n) (eqb-true s socket e);
    }
    by false e = record {
      place = has.place + 1;
      is = rw e (ap (option_map (λ (place : ℕ). place + 1)) has.is);
      there = rw add-one has.there;
    }

pub first_has_place : (seats : List Seat) (h : History) (time : ℕ) (chain : List ℕ) (socket : ℕ) →
    first_asking seats h time chain ≡ Some socket → HasPlace socket chain
first_has_place seats h time [] socket is = absurd (cc)
first_has_place seats h time (s ∷ later) socket is = by (is_asking_at seats h time s) is (first_has_place seats h time later socket)
  where
    by : (asks : Bool) → (if asks then Some s else first_asking seats h time later) ≡ Some socket →
        (first_asking seats h time later ≡ Some socket → HasPlace socket later) → HasPlace socket (s ∷ later)
    by true here behind =
        let same : s ≡ socket = cc in rw (sym same) (place_first s later)
    by false here behind = place_later socket s later (behind here)

pub placed_there : (socket : ℕ) (chain : List ℕ) (place : ℕ) → place_in_chain socket chain ≡ Some place → slice_get chain place ≡ Some socket
placed_there socket [] place is = absurd (cc)
placed_there socket (s ∷ later) place is =
    by (s == socket) (place_in_chain socket later) refl refl is (λ k e. placed_there socket later k e)
  where
    by : (here : Bool) (found : Option ℕ) → (s == socket) ≡ here → place_in_chain socket later ≡ found →
        (if here then Some 0 else option_map (λ (k : ℕ). k + 1) found) ≡ Some place →
        ((k : ℕ) → place_in_chain socket later ≡ Some k → slice_get later k ≡ Some socket) → slice_get (s ∷ later) place ≡ Some socket
    by true found e f at rest =
        let first : 0 ≡ place = cc in
        subst (λ (k : ℕ). slice_get (s ∷ later) k ≡ Some socket) first (ap (λ (n : ℕ). Some n) (eqb-true s socket e))
    by false None e f at rest = absurd (cc)
    by false (Some k) e f at rest =
        let next : k + 1 ≡ place = cc in
        subst (λ (n : ℕ). slice_get (s ∷ later) n ≡ Some socket) (sym (add-one k) ∙ next) (rest k f)

-- ---- pulses that no longer count

-- none is later than the last acknowledgement of its chip
abbrev pub AreSpent : List Mark → List Mark → Type 0
AreSpent acknowledged pulses = AllByRecursion (λ (m : Mark). m.phi ≤ last_mark_time m.chip acknowledged) pulses

no_mark_here : (here : Bool) (phi since time : ℕ) (rest : Bool) → (here ≡ true → phi ≤ since) → rest ≡ false →
    ((here && nat_lt since phi && nat_le phi time) || rest) ≡ false
no_mark_here false phi since time rest early none = none
no_mark_here true phi since time rest early none = let order : phi ≤ since = early refl in grind (nat_tests, arith)

pub spent_unmarked : (acknowledged pulses : List Mark) (socket since time : ℕ) → last_mark_time socket acknowledged ≤ since →
    AreSpent acknowledged pulses → has_mark socket since time pulses ≡ false
spent_unmarked acknowledged [] socket since time order spent = refl
spent_unmarked acknowledged (m ∷ ms) socket since time order spent =
    no_mark_here (m.chip == socket) m.phi since time (has_mark socket since time ms) early
    (spent_unmarked acknowledged ms socket since time order spent.1)
  where
    early : (m.chip == socket) ≡ true → m.phi ≤ since
    early same =
        let last : last_mark_time m.chip acknowledged ≡ last_mark_time socket acknowledged =
        ap (λ (chip : ℕ). last_mark_time chip acknowledged) (eqb-true m.chip socket same) in
        let here : m.phi ≤ last_mark_time m.chip acknowledged = spent.0 in
        omega (arith, last, here, order)

mark_here : (here : Bool) (since phi time : ℕ) (rest : Bool) → here ≡ true → since < phi → phi ≤ time →
    ((here && nat_lt since phi && nat_le phi time) || rest) ≡ true
mark_here here since phi time rest e live order = grind (nat_tests, arith)

-- an acknowledgement later than a mark spends it, and an earlier one already did
mark_later : (here : Bool) (at phi ending last : ℕ) → at ≤ last → last < phi → phi + 4 ≤ ending → at ≤ (if here then ending - 4 else last)
mark_later true at phi ending last early past late = omega arith
mark_later false at phi ending last early past late = early

mark_new : (here : Bool) (phi ending last : ℕ) → here ≡ true → phi + 4 ≤ ending → phi ≤ (if here then ending - 4 else last)
mark_new true phi ending last e late = omega arith
mark_new false phi ending last e late = absurd (cc)

-- ---- one chip's request

-- whether a chip asks, by whether it is wired and admits expiries and pulses, and whether either came
abbrev asks_by : Bool → Bool → Bool → Bool → Bool → Bool
asks_by wired timer pin expired pulsed = wired && (if timer then expired else if pin then pulsed else false)

more_asks : (wired timer pin expired pulsed : Bool) → asks_by wired timer pin expired false ≡ true → asks_by wired timer pin expired pulsed ≡ true
more_asks true true pin expired pulsed e = e
more_asks true false true expired pulsed e = absurd (cc)
more_asks true false false expired pulsed e = absurd (cc)
more_asks false timer pin expired pulsed e = absurd (cc)

-- an asking chip was pulsed, or asks without that too
pulsed_or_not : (wired timer pin expired first second : Bool) → asks_by wired timer pin expired second ≡ true →
    (second ≡ true) ⊎ (asks_by wired timer pin expired first ≡ true)
pulsed_or_not wired timer pin expired first true e = inl refl
pulsed_or_not wired timer pin expired first false e = inr (more_asks wired timer pin expired first e)

-- an asking chip asks again where it is pulsed, if it takes pulses
asks_again : (wired timer pin expired first second : Bool) → asks_by wired timer pin expired first ≡ true →
    ((wired && pin) ≡ true → second ≡ true) → asks_by wired timer pin expired second ≡ true
asks_again true true pin expired first second e comes = e
asks_again true false true expired first second e comes = comes refl
asks_again true false false expired first second e comes = e
asks_again false timer pin expired first second e comes = absurd (cc)

-- ---- the pulses of two histories

-- the pulses are the spent ones, and one of a chip at most
abbrev pub IsMarkedBy : Option ℕ → ℕ → List Mark → List Mark → Type 0
IsMarkedBy o phi spent pulses = (pulses ≡ spent) ⊎ ((s : ℕ) × (o ≡ Some s) × (pulses ≡ with_mark s phi spent))

-- where a pulse comes at a chip's place, if it comes
pub placed_marked : (chain : List ℕ) (phi : ℕ) (spent : List Mark) (s : ℕ) (takes : Bool) →
    IsMarkedBy (Some s) phi spent (pulses_after chain phi (if takes then pulse_to (place_in_chain s chain) else []) spent)
placed_marked chain phi spent s takes = by takes (place_in_chain s chain) refl
  where
    by : (takes : Bool) (place : Option ℕ) → place_in_chain s chain ≡ place →
        IsMarkedBy (Some s) phi spent (pulses_after chain phi (if takes then pulse_to place else []) spent)
    by true None e = inl refl
    by true (Some place) e = inr (s, refl, ap (λ (o : Option ℕ). marked o phi spent) (placed_there s chain place e))
    by false place e = inl refl

pub pulse_placed : (chain : List ℕ) (phi : ℕ) (spent : List Mark) (s : ℕ) → HasPlace s chain →
    pulses_after chain phi (pulse_to (place_in_chain s chain)) spent ≡ with_mark s phi spent
pulse_placed chain phi spent s has =
    ap (λ (o : Option ℕ). pulses_after chain phi (pulse_to o) spent) has.is ∙ ap (λ (o : Option ℕ). marked o phi spent) has.there

-- Which pulses come by the chip that is told: one of that chip at most, and it comes where the chip takes it.
pub record Pulsing (seats : List Seat) (writes : List PortWrite) (chain : List ℕ) (phi : ℕ) (spent : List Mark) : Type 0 where
  pub pulses : Option ℕ → List Mark
  pub shape : (o : Option ℕ) → IsMarkedBy o phi spent (pulses o)
  pub comes : (s : ℕ) (seat : Seat) → slice_get seats s ≡ Some seat → takes_pulse (Some seat) writes ≡ true → HasPlace s chain →
      pulses (Some s) ≡ with_mark s phi spent

-- those that a trace dictates
module _ (seats : List Seat) (writes : List PortWrite) (chain : List ℕ) (phi : ℕ) (spent : List Mark) where
  pub dictated_shape : (o : Option ℕ) → IsMarkedBy o phi spent (pulses_after chain phi (pulse_by writes seats chain o) spent)
  dictated_shape None = inl refl
  dictated_shape (Some s) = placed_marked chain phi spent s (takes_pulse (slice_get seats s) writes)

  pub dictated_comes : (s : ℕ) (seat : Seat) → slice_get seats s ≡ Some seat → takes_pulse (Some seat) writes ≡ true → HasPlace s chain →
      pulses_after chain phi (pulse_by writes seats chain (Some s)) spent ≡ with_mark s phi spent
  dictated_comes s seat there takes has =
      ap (λ (o : Option Seat). pulses_after chain phi (if takes_pulse o writes then pulse_to (place_in_chain s chain) else []) spent) there
      ∙ ap (λ (b : Bool). pulses_after chain phi (if b then pulse_to (place_in_chain s chain) else []) spent) takes
      ∙ pulse_placed chain phi spent s has

  abbrev pub dictated_pulsing : Pulsing seats writes chain phi spent
  dictated_pulsing = record {
    pulses = λ o. pulses_after chain phi (pulse_by writes seats chain o) spent;
    shape = dictated_shape;
    comes = dictated_comes;
  }

-- The second history has other pulses: those that are spent, and one for the chip that is told at most, now.
module _ (seats : List Seat) (writes : List PortWrite) (acknowledged before spent : List Mark) (chain : List ℕ) (phi time : ℕ) (told : Option ℕ)
    (pulsing : Pulsing seats writes chain phi spent)
    (are_spent : AreSpent acknowledged spent) (written : (port : ℕ) → last_write_time port writes < phi)
    (marks_past : (chip : ℕ) → last_mark_time chip acknowledged < phi) (order : phi ≤ time) where
  abbrev pub first_history : History
  first_history = record { writes = writes; acknowledged = acknowledged; pulses = before }

  abbrev pub pulses_now : List Mark
  pulses_now = pulsing.pulses told

  abbrev pub second_history : History
  second_history = record { writes = writes; acknowledged = acknowledged; pulses = pulses_now }

  -- a mark among them that still counts is that of the chip that is told
  mark_now : (since socket : ℕ) → last_mark_time socket acknowledged ≤ since → has_mark socket since time pulses_now ≡ true → told ≡ Some socket
  mark_now since socket early is = elim (pulsing.shape told) [
    | inl same ↦
        let has : has_mark socket since time spent ≡ true =
        ap (λ (ms : List Mark). has_mark socket since time ms) (sym same) ∙ is in
        let none = none_spent in absurd (cc)
    | inr p ↦
        p.1 ∙ ap (λ (n : ℕ). Some n)
        (told_here p.0 (ap (λ (ms : List Mark). has_mark socket since time ms) (sym p.2) ∙ is))
  ]
    where
      none_spent : has_mark socket since time spent ≡ false
      none_spent = spent_unmarked acknowledged spent socket since time early are_spent

      told_here : (s : ℕ) → (((s == socket) && nat_lt since phi && nat_le phi time) || has_mark socket since time spent) ≡ true → s ≡ socket
      told_here s has = by (s == socket) refl (rw none_spent at has)
        where
          by : (here : Bool) → (s == socket) ≡ here → ((here && nat_lt since phi && nat_le phi time) || false) ≡ true → s ≡ socket
          by true e h = eqb-true s socket e
          by false e h = absurd (cc)

  no_more : (s : ℕ) → is_asking_at seats second_history time s ≡ true → (told ≡ Some s) ⊎ (is_asking_at seats first_history time s ≡ true)
  no_more s = by_seat (slice_get seats s)
    where
      early : (first : ℕ) → last_mark_time s acknowledged ≤ since_of first s first_history
      early first = omega arith

      by_ports : (wired : Bool) (ports : Option ℕ) → (wired && has_request_by ports s second_history time) ≡ true →
          (told ≡ Some s) ⊎ ((wired && has_request_by ports s first_history time) ≡ true)
      by_ports wired None asks = inr asks
      by_ports wired (Some first) asks =
          let control = latch_of (control_port first) writes in
          let since = since_of first s first_history in
          elim (pulsed_or_not wired (admits_expiries control) (admits_pulses control) (has_expiry (timer_port first) since time writes)
          (has_mark s since time before) (has_mark s since time pulses_now) asks) [
            | inl pulsed ↦ inl (mark_now since s (early first) pulsed)
            | inr again ↦ inr again
          ]

      by_seat : (o : Option Seat) → is_asking_in o s second_history time ≡ true → (told ≡ Some s) ⊎ (is_asking_in o s first_history time ≡ true)
      by_seat None asks = absurd (cc)
      by_seat (Some seat) asks = by_ports seat.wired seat.ports asks

  -- the pulse comes where the chip takes it
  pulse_comes : (s : ℕ) (seat : Seat) → told ≡ Some s → slice_get seats s ≡ Some seat → takes_pulse (Some seat) writes ≡ true →
      HasPlace s chain → pulses_now ≡ with_mark s phi spent
  pulse_comes s seat is there takes has = ap pulsing.pulses is ∙ pulsing.comes s seat there takes has

  still : first_asking seats first_history time chain ≡ told → (s : ℕ) → told ≡ Some s → is_asking_at seats first_history time s ≡ true →
      is_asking_at seats second_history time s ≡ true
  still first_is s is = by_seat (slice_get seats s) refl
    where
      has : HasPlace s chain
      has = first_has_place seats first_history time chain s (first_is ∙ is)

      live : (first : ℕ) → since_of first s first_history < phi
      live first = let w = written (control_port first) in let m = marks_past s in omega (arith, w, m)

      by_ports : (wired : Bool) (ports : Option ℕ) →
          ((wired && admits_pulses (control_of ports writes)) ≡ true → pulses_now ≡ with_mark s phi spent) →
          (wired && has_request_by ports s first_history time) ≡ true → (wired && has_request_by ports s second_history time) ≡ true
      by_ports wired None comes asks = asks
      by_ports wired (Some first) comes asks =
          let control = latch_of (control_port first) writes in
          let since = since_of first s first_history in
          asks_again wired (admits_expiries control) (admits_pulses control) (has_expiry (timer_port first) since time writes)
          (has_mark s since time before) (has_mark s since time pulses_now) asks
          (λ takes. ap (λ (ms : List Mark). has_mark s since time ms) (comes takes)
          ∙ mark_here (s == s) since phi time (has_mark s since time spent) (eq-eqb s s refl) (live first) order)

      by_seat : (o : Option Seat) → slice_get seats s ≡ o → is_asking_in o s first_history time ≡ true →
          is_asking_in o s second_history time ≡ true
      by_seat None there asks = absurd (cc)
      by_seat (Some seat) there asks = by_ports seat.wired seat.ports (λ takes. pulse_comes s seat is there takes has) asks

  -- the same chip is chosen at the end of an instruction
  pub chosen_again : (op : Op) (icb : Bool) → chosen_at op icb seats chain first_history time ≡ told →
      chosen_at op icb seats chain second_history time ≡ told
  unfolding chosen_at
  chosen_again op icb is = by (is_shielding op || not icb) is
    where
      by : (shut : Bool) → (if shut then None else first_asking seats first_history time chain) ≡ told →
          (if shut then None else first_asking seats second_history time chain) ≡ told
      by true here = here
      by false here = first_same seats first_history second_history time told no_more (still here) chain here

  -- ---- behind the instruction

  spent_marked : (s ending : ℕ) (marks : List Mark) → phi + 4 ≤ ending → AreSpent acknowledged marks →
      AreSpent (with_mark s (effect_time ending) acknowledged) marks
  spent_marked s ending [] late are = tt
  spent_marked s ending (m ∷ ms) late are = (
    mark_later (s == m.chip) m.phi phi ending (last_mark_time m.chip acknowledged) are.0 (marks_past m.chip) late,
    spent_marked s ending ms late are.1,
  )

  spent_kept : (o : Option ℕ) (ending : ℕ) → ((s : ℕ) → o ≡ Some s → phi + 4 ≤ ending) →
      AreSpent (with_acknowledged o ending acknowledged) spent
  spent_kept None ending late = are_spent
  spent_kept (Some s) ending late = spent_marked s ending spent (late s refl) are_spent

  -- all pulses are spent where the interrupt that is told is acknowledged
  pub spent_now : (ending : ℕ) → ((s : ℕ) → told ≡ Some s → phi + 4 ≤ ending) → AreSpent (with_acknowledged told ending acknowledged) pulses_now
  spent_now ending late = elim (pulsing.shape told) [
    | inl same ↦ subst (AreSpent (with_acknowledged told ending acknowledged)) (sym same) (spent_kept told ending late)
    | inr p ↦
        subst (λ (o : Option ℕ). AreSpent (with_acknowledged o ending acknowledged) pulses_now) (sym p.1)
        (subst (AreSpent (with_mark p.0 (effect_time ending) acknowledged)) (sym p.2) (
          mark_new (p.0 == p.0) phi ending (last_mark_time p.0 acknowledged) (eq-eqb p.0 p.0 refl) (late p.0 p.1),
          spent_marked p.0 ending spent (late p.0 p.1) are_spent,
        ))
  ]
