-- What bus steps ask goes on from what the index knows since power-on.
use Rattle.std.proofs.Common.{◌≡◌, ℕ, ◌+◌, ◌*◌, ◌≤◌, Bool, List, [], ◌∷◌, ◌++◌, length, map, refl, sym, ap, ap₂, ◌∙◌, arith}
use Rattle.std.specs.Prelude.{Option, None}
use Rattle.std.specs.List.{list_any}
use Rattle.std.proofs.lemmas.List.{append_assoc, append-nil, length-map}
use Rattle.f8_spec.specs.BusArbitration.{seat_of}
use Rattle.f8_spec.specs.ChipState.{ChipView, ChipState}
use Rattle.console_spec.specs.Run.{Stop}
use Rattle.data_bus.specs.KnownAgreement.{no_marks, parts}
use Rattle.data_bus.specs.PageIndex.{followed, seats}
use Rattle.data_bus.specs.Racks.{views}
use Rattle.data_bus.specs.declared.index.Index.{Index}
use Rattle.data_bus.specs.declared.marks.Marks.{Marks}
use Rattle.f8_machine.specs.Fitting.{Fits, tried, tried_in}
use Rattle.f8_machine.specs.MachineState.{MachineState, steps_in}
use Rattle.f8_machine.specs.Questions.{allowances, allowed, codes_of, followed_all}
use Rattle.f8_machine.specs.declared.heard.Heard.{Heard}
use Rattle.f8_machine.specs.declared.outcome.Outcome.{Outcome}
use Rattle.f8_machine.specs.declared.outcome.Outcome.TheVariants.{Done, Fault as FaultOutcome, Reserved}
use Rattle.rack_run.proofs.MachineAsking.{allowances-append, code_told, tried_most}
use Rattle.rewind.specs.Asking.{allowed_since_power, tried_codes, unserved_codes}
use Rattle.rewind.specs.Reached.{Reached}
use Rattle.rewind.specs.Standing.{HasFollowed}
use Rattle.rewind.specs.Tape.{stop_in}

-- ---- the index

followed-append : (first later : List ℕ) (index : Index) →
    followed_all (first ++ later) index ≡ followed_all later (followed_all first index)
followed-append [] later index = refl
followed-append (romc ∷ first) later index = followed-append first later (followed romc index)

followed-parted : (codes : List ℕ) (index : Index) → (followed_all codes index).is_parted ≡ index.is_parted
followed-parted [] index = refl
followed-parted (romc ∷ codes) index = followed-parted codes (followed romc index)

codes-append : (first later : List Heard) → codes_of (first ++ later) ≡ codes_of first ++ codes_of later
codes-append [] later = refl
codes-append (h ∷ first) later = ap (λ (l : List ℕ). h.romc ∷ l) (codes-append first later)

-- at power-on it has followed none
pub followed_none : (index : Index) → index.marks ≡ no_marks → HasFollowed [] index
followed_none index unknown = record { first = index; unknown = unknown; is = refl }

pub followed_more : (before steps : List Heard) (old new : Index) → HasFollowed before old →
    new ≡ followed_all (codes_of steps) old → HasFollowed (before ++ steps) new
followed_more before steps old new had is = record {
  first = had.first;
  unknown = had.unknown;
  is = is ∙ ap (followed_all (codes_of steps)) had.is
      ∙ sym (followed-append (codes_of before) (codes_of steps) had.first)
      ∙ ap (λ (l : List ℕ). followed_all l had.first) (sym (codes-append before steps));
}

-- whether counters have parted stays
pub parted_since : (codes : List ℕ) (old new : Index) → new ≡ followed_all codes old → old.is_parted ≡ new.is_parted
parted_since codes old new is = sym (ap (λ (i : Index). i.is_parted) is ∙ followed-parted codes old)

-- ---- the codes of an outcome

tried_told : (outcome : Outcome) →
    tried_in outcome ≡ codes_of (steps_in outcome) ++ unserved_codes (stop_in outcome)
tried_told (Done wrote steps) = sym (append-nil (codes_of steps))
tried_told (FaultOutcome fault long steps) = ap (λ (romc : ℕ). codes_of steps ++ romc ∷ []) (code_told fault)
tried_told (Reserved at code) = refl

-- ---- allowances

-- what is allowed since power-on, by the index of then
pub since_power : (n : ℕ) (states : List ChipState) (r : Reached) (first : Index) → length states ≡ n → views states ≡ r.chips →
    first.marks ≡ no_marks → first.is_parted ≡ list_any parts (seats states) →
    allowed_since_power r ≡ 512 * n + allowances n first (tried_codes r)
since_power n states r first long same unknown parted =
    let size : length r.chips ≡ n =
    ap (λ (vs : List ChipView). length vs) (sym same) ∙ length-map states (λ (s : ChipState). s.view) ∙ long in
    let flag : list_any parts (map seat_of r.chips) ≡ first.is_parted =
    ap (λ (vs : List ChipView). list_any parts (map seat_of vs)) (sym same) ∙ sym parted in
    ap (λ (k : ℕ). 512 * k + allowed k (list_any parts (map seat_of r.chips)) no_marks (tried_codes r)) size
    ∙ ap (λ (b : Bool). 512 * n + allowed n b no_marks (tried_codes r)) flag
    ∙ ap (λ (m : Marks). 512 * n + allowed n first.is_parted m (tried_codes r)) (sym unknown)

further : (p q rooms a b c d more : ℕ) → q ≤ p + more → a ≡ rooms + c → b ≡ rooms + d → d ≡ c + more → q + a ≤ p + b
further p q rooms a b c d more few first last on = omega arith

-- Steps lead from one place, where nothing stopped the machine, to another, on a rack of n chips.
module _ (n : ℕ) (m after : MachineState) (olds news : List ChipState) (from to : Reached) (outcome : Outcome)
    (long : length olds ≡ n) (kept : length news ≡ n) (same : views olds ≡ from.chips) (now_same : views news ≡ to.chips)
    (fits : Fits m olds) (fit : Fits after news) (had : HasFollowed from.heard m.index)
    (follows : after.index ≡ followed_all (codes_of (steps_in outcome)) m.index) (running : from.stop ≡ None)
    (heard : to.heard ≡ from.heard ++ steps_in outcome)
    (stop : stop_in outcome ≡ to.stop) where
  first_parted : had.first.is_parted ≡ m.index.is_parted
  first_parted = parted_since (codes_of from.heard) had.first m.index had.is

  codes_before : tried_codes from ≡ codes_of from.heard
  codes_before =
      ap (λ (o : Option Stop). codes_of from.heard ++ unserved_codes o) running ∙ append-nil (codes_of from.heard)

  codes_after : tried_codes to ≡ codes_of from.heard ++ tried_in outcome
  codes_after =
      ap₂ (λ (hs : List Heard) (o : Option Stop). codes_of hs ++ unserved_codes o) heard (sym stop)
      ∙ ap (λ (l : List ℕ). l ++ unserved_codes (stop_in outcome)) (codes-append from.heard (steps_in outcome))
      ∙ append_assoc (codes_of from.heard) (codes_of (steps_in outcome)) (unserved_codes (stop_in outcome))
      ∙ ap (λ (l : List ℕ). codes_of from.heard ++ l) (sym (tried_told outcome))

  allowed_more : allowances n had.first (tried_codes to)
      ≡ allowances n had.first (tried_codes from) + allowances n m.index (tried_in outcome)
  allowed_more =
      ap (allowances n had.first) codes_after
      ∙ allowances-append n (codes_of from.heard) (tried_in outcome) had.first
      ∙ ap (λ (i : Index). allowances n had.first (codes_of from.heard) + allowances n i (tried_in outcome)) (sym had.is)
      ∙ ap (λ (l : List ℕ). allowances n had.first l + allowances n m.index (tried_in outcome)) (sym codes_before)

  pub steps_ask : (p q : ℕ) → q ≤ p + allowances n m.index (tried m.mode outcome) →
      q + allowed_since_power from ≤ p + allowed_since_power to
  steps_ask p q few =
      further p q (512 * n) (allowed_since_power from) (allowed_since_power to) (allowances n had.first (tried_codes from))
      (allowances n had.first (tried_codes to)) (allowances n m.index (tried_in outcome))
      (tried_most n p q m.index outcome m.mode few)
      (since_power n olds from had.first long same had.unknown (first_parted ∙ fits.lists.parted))
      (since_power n news to had.first kept now_same had.unknown
      (first_parted ∙ parted_since (codes_of (steps_in outcome)) m.index after.index follows ∙ fit.lists.parted))
      allowed_more
