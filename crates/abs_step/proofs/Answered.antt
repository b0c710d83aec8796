-- Reads at D0 at a safe point: what can become of them, and that some chip answers where the state is free of faults.
use Rattle.std.proofs.Common.{◌≡◌, ℕ, zero, suc, ◌+◌, ◌*◌, ◌/◌, ◌<◌, ◌≤◌, Bool, true, false}
use Rattle.std.proofs.Common.{◌&&◌, ◌||◌, List, refl, ap, sym, ◌∙◌, subst, ◌⊎◌, inl, inr, arith}
use Rattle.std.specs.Prelude.{Option, Some, None, not, filter_map, option_map, option_and_then, slice_get}
use Rattle.std.specs.List.{AllByRecursion, list_all, range_with_len}
use Rattle.std.proofs.lemmas.Bool.{cases_eq}
use Rattle.f8_spec.specs.ChipState.{has_counters, place_of}
use Rattle.f8_spec.specs.Instructions.{row_of}
use Rattle.f8_spec.specs.BusArbitration.{Seat, seat_holds, rule_of}
use Rattle.f8_spec.specs.declared.bus.BusRule.TheVariants.{Read}
use Rattle.f8_spec.specs.declared.chips.ChipKind.{ChipKind}
use Rattle.f8_spec.specs.declared.chips.ChipKind.TheVariants.{Psu, Smi, Pio}
use Rattle.f8_spec.specs.declared.chips.Page.{Page}
use Rattle.f8_spec.specs.declared.instructions.Op.{Op}
use Rattle.console_spec.specs.Processor.{Flow}
use Rattle.console_spec.specs.CounterCopies.{Copy}
use Rattle.console_spec.specs.FlatMemory.{sort_among, sort_of}
use Rattle.console_spec.specs.BusAccesses.{at_data}
use Rattle.console_spec.specs.Services.{access_fault}
use Rattle.console_spec.specs.Run.{Position, seats_of}
use Rattle.console_spec.specs.declared.Sort.TheVariants.{Shared}
use Rattle.abs_domain.specs.Lattice.{Below}
use Rattle.abs_domain.specs.AbstractState.{KnownCounters}
use Rattle.memory_map.specs.MapKinds.{is_held}
use Rattle.abs_step.specs.MapView.{MapView, IsViewOf, holds_every_address}
use Rattle.abs_step.specs.Successors.{Invariant}
use Rattle.abs_step.specs.Safety.{reads_at_data, is_answered, is_row_fault_free, is_fault_free}
use Rattle.abs_step.specs.Concretization.{ChipTells}
use Rattle.abs_step.specs.Soundness.{IsDataRead}
use Rattle.abs_step.proofs.Knowing.{all_and_any}
use Rattle.abs_step.proofs.Members.{SomeOf, all_map, some_map, some_unmapped}
use Rattle.abs_step.proofs.Holders.{some_hold}
use Rattle.abs_step.proofs.MapLaws.{IsMapped, HoldsAs, some_of_kind}
use Rattle.abs_step.proofs.Services.{IsTold, ReadsAlike, DataOutcome, Answers, data_read, data_read_served, holds_if}
use Rattle.abs_step.proofs.SafeSteps.{IsSafeHere, told_copies, reads_alike, unshared_by, second, reads_go}

-- ---- every address is held

pub all_in_range : (test : ℕ → Bool) (a n k : ℕ) → list_all test (range_with_len a n) ≡ true → a ≤ k → k < a + n → test k ≡ true
all_in_range test a zero k all low high = absurd (omega arith)
all_in_range test a (suc n) k all low high = elim (cases_eq k a) [
  | inl here ↦ subst (λ (x : ℕ). test x ≡ true) (sym here) (first (test a) all)
  | inr away ↦ all_in_range test (a + 1) n k (rest (test a) all) (omega arith) (omega arith)
]
  where
    first : (b : Bool) → (b && list_all test (range_with_len (a + 1) n)) ≡ true → b ≡ true
    first true e = refl
    first false e = e

    rest : (b : Bool) → (b && list_all test (range_with_len (a + 1) n)) ≡ true → list_all test (range_with_len (a + 1) n) ≡ true
    rest true e = e
    rest false e = absurd (cc)

-- the sort of an address is that of the first of its page
same_page : (seats : List Seat) (a b : ℕ) → a / 256 ≡ b / 256 → sort_of seats a ≡ sort_of seats b
same_page seats a b same = ap (λ (number : ℕ). sort_among (filter_map (λ (s : Seat). option_and_then
    (λ place. option_map (λ (p : Page). p.sort) (slice_get s.pages place)) (place_of s.pages number)) seats)) same

pub held_everywhere : (m : MapView) (seats : List Seat) (at : ℕ) → IsViewOf m seats → at < 65536 → holds_every_address m ≡ true →
    is_held (sort_of seats at) ≡ true
unfolding holds_every_address
held_everywhere m seats at view small all =
    let first : is_held (m.sort (at / 256 * 256)) ≡ true =
    all_in_range (λ number. is_held (m.sort (number * 256))) 0 256 (at / 256) all (omega arith) (omega arith) in
    let sort = view.sort (at / 256 * 256) (omega arith) ∙ same_page seats (at / 256 * 256) at (omega arith) in
    rw sort at first

-- ---- a chip that holds D0 is there

smi_there : (kind : ChipKind) (m : MapView) (k : KnownCounters) (r c : Flow) (s : Seat) → s.kind ≡ kind → kind ≡ Smi → IsMapped m s →
    (m.any Smi ≡ true → k.s0 ≡ true) → ChipTells kind k r c → seat_holds s r.d0 ≡ true → c.d0 ≡ r.d0
smi_there Psu m k r c s is smi mapped alike t holds = absurd (cc)
smi_there Smi m k r c s is smi mapped alike t holds =
    let any : m.any s.kind ≡ true = mapped.any r.d0 holds in
    holds_if k.s0 (alike (rw is at any)) t.first
smi_there Pio m k r c s is smi mapped alike t holds = absurd (cc)

psu_there : (kind : ChipKind) (k : KnownCounters) (r c : Flow) → kind ≡ Psu → k.p0 ≡ true → ChipTells kind k r c → c.d0 ≡ r.d0
psu_there Psu k r c psu p0 t = holds_if k.p0 p0 t.first
psu_there Smi k r c psu p0 t = absurd (cc)
psu_there Pio k r c psu p0 t = absurd (cc)

any_there : (kind : ChipKind) (m : MapView) (k : KnownCounters) (r c : Flow) (s : Seat) → s.kind ≡ kind → IsMapped m s →
    (m.any Smi ≡ true → k.s0 ≡ true) → (m.any Psu ≡ true → k.p0 ≡ true) → ChipTells kind k r c → seat_holds s r.d0 ≡ true → c.d0 ≡ r.d0
any_there Psu m k r c s is mapped alike p0 t holds =
    let any : m.any s.kind ≡ true = mapped.any r.d0 holds in
    holds_if k.p0 (p0 (rw is at any)) t.first
any_there Smi m k r c s is mapped alike p0 t holds =
    let any : m.any s.kind ≡ true = mapped.any r.d0 holds in
    holds_if k.s0 (alike (rw is at any)) t.first
any_there Pio m k r c s is mapped alike p0 t holds =
    let has : has_counters s.kind ≡ true = mapped.counted r.d0 holds in absurd (cc (rw is at has))

module _ (m : MapView) (ret : Option ℕ) (k : KnownCounters) (r : Flow) (cs : List Copy) (view : IsViewOf m (seats_of cs))
    (alike : ReadsAlike m k)
    (told : AllByRecursion (IsTold m ret k r) cs) where
  by_smi : m.held r.d0 Smi ≡ true → r.d0 < 65536 → SomeOf (Answers r) cs
  by_smi held small = some_map (λ (c : Copy). HoldsAs Smi r.d0 c.seat) (Answers r) cs
      (all_map (IsTold m ret k r) _ cs (λ c t holds.
      (holds.1, smi_there c.seat.kind m k r c.flow c.seat refl holds.0 t.mapped alike.smi t.tells.chip holds.1)) told)
      (some_unmapped (λ (c : Copy). c.seat) (HoldsAs Smi r.d0) cs
      (some_of_kind Smi (seats_of cs) r.d0 (sym (view.held r.d0 small Smi) ∙ held)))

  by_psu : m.held r.d0 Psu ≡ true → k.p0 ≡ true → r.d0 < 65536 → SomeOf (Answers r) cs
  by_psu held p0 small = some_map (λ (c : Copy). HoldsAs Psu r.d0 c.seat) (Answers r) cs
      (all_map (IsTold m ret k r) _ cs (λ c t holds. (holds.1, psu_there c.seat.kind k r c.flow holds.0 p0 t.tells.chip)) told)
      (some_unmapped (λ (c : Copy). c.seat) (HoldsAs Psu r.d0) cs
      (some_of_kind Psu (seats_of cs) r.d0 (sym (view.held r.d0 small Psu) ∙ held)))

  by_any : is_held (sort_of (seats_of cs) r.d0) ≡ true → (m.any Psu ≡ true → k.p0 ≡ true) → SomeOf (Answers r) cs
  by_any held p0 = some_map (λ (c : Copy). seat_holds c.seat r.d0 ≡ true) (Answers r) cs
      (all_map (IsTold m ret k r) _ cs (λ c t holds.
      (holds, any_there c.seat.kind m k r c.flow c.seat refl t.mapped alike.smi p0 t.tells.chip holds)) told)
      (some_unmapped (λ (c : Copy). c.seat) (λ (s : Seat). seat_holds s r.d0 ≡ true) cs (some_hold r.d0 (seats_of cs) held))

  either_held : (smi psu p0 : Bool) → (smi || (psu && p0)) ≡ true → (smi ≡ true) ⊎ ((psu ≡ true) × (p0 ≡ true))
  either_held true psu p0 e = inl refl
  either_held false true true e = inr (refl, refl)
  either_held false true false e = absurd (cc)
  either_held false false p0 e = absurd (cc)

  pub some_answers : (o : Option ℕ) → Below (Some r.d0) o → r.d0 < 65536 → is_answered m o k.p0 ≡ true → SomeOf (Answers r) cs
  some_answers None p small answered =
      let both = all_and_any (holds_every_address m) (m.any Psu) k.p0 answered in
      by_any (held_everywhere m (seats_of cs) r.d0 view small both.0) both.1
  some_answers (Some v) p small answered =
      let same : v ≡ r.d0 = cc in
      let here : is_answered m (Some r.d0) k.p0 ≡ true = rw same at answered in
      elim (either_held (m.held r.d0 Smi) (m.held r.d0 Psu) k.p0 here) [
        | inl smi ↦ by_smi smi small
        | inr psu ↦ by_psu psu.0 psu.1 small
      ]

-- ---- a safe state at a position beside it

read_rule : (romc : ℕ) → IsDataRead romc → rule_of romc ≡ Read
read_rule romc (inl is) = rw is refl
read_rule romc (inr (inl is)) = rw is refl
read_rule romc (inr (inr is)) = rw is refl

answered_by : (reads answered : Bool) → (not reads || answered) ≡ true → reads ≡ true → answered ≡ true
answered_by true answered e r = e
answered_by false answered e r = absurd (cc)

module _ (m : MapView) (tracked : List ℕ) (x : Invariant) (op : Op) (here : Position) (safe : IsSafeHere m tracked x op here) where
  unshared_here : reads_at_data (row_of op) ≡ true → sort_of (seats_of here.copies) here.flat.state.flow.d0 ≡ Shared → ⊥
  unshared_here reads = unshared_by m here.copies here.flat.state.flow.d0 x.state.counters.d0 safe.beside.view safe.beside.range.counters.d0
      safe.beside.tells.counters.d0 (second _ _ safe.state.later.1.1.1.1.1.1.1.0 (reads_go (row_of op) reads))

  pub read_outcome_here : reads_at_data (row_of op) ≡ true → (romc : ℕ) → IsDataRead romc →
      DataOutcome romc here.flat.state.flow.d0 (access_fault here.flat.state.flow here.copies (at_data romc))
  read_outcome_here reads romc is = data_read m x.point.ret x.state.counters here.flat.state.flow romc here.copies (read_rule romc is)
      (reads_alike (row_of op) m x.state.counters safe.state.later.1.1.1.0 reads) (told_copies m tracked x op here safe)
      (unshared_here reads)

  answered_here : is_fault_free m x ≡ true → reads_at_data (row_of op) ≡ true → is_answered m x.state.counters.d0 x.state.counters.p0 ≡ true
  unfolding is_fault_free
  answered_here free reads =
      let row : is_row_fault_free (row_of op) m x.state.counters ≡ true = rw safe.state.is at free in
      answered_by (reads_at_data (row_of op)) _ row reads

  pub read_served_here : is_fault_free m x ≡ true → reads_at_data (row_of op) ≡ true → (romc : ℕ) → IsDataRead romc →
      access_fault here.flat.state.flow here.copies (at_data romc) ≡ None
  read_served_here free reads romc is =
      let alike = reads_alike (row_of op) m x.state.counters safe.state.later.1.1.1.0 reads in
      let told = told_copies m tracked x op here safe in
      data_read_served m x.point.ret x.state.counters here.flat.state.flow romc here.copies (read_rule romc is) alike told
      (unshared_here reads)
      (some_answers m x.point.ret x.state.counters here.flat.state.flow here.copies safe.beside.view alike told x.state.counters.d0
      safe.beside.tells.counters.d0 safe.beside.range.counters.d0 (answered_here free reads))
