-- What an instruction of a machine and its reset ask of the chips.
use Rattle.std.proofs.Common.{◌≡◌, ℕ, ◌+◌, ◌≤◌, Bool, true, false, List, [], ◌∷◌, ◌++◌, map, refl, sym, ap, ◌∙◌, subst, arith}
use Rattle.std.specs.Prelude.{Option}
use Rattle.std.proofs.lemmas.List.{append-nil}
use Rattle.f8_spec.specs.ChipState.{ChipState}
use Rattle.console_spec.specs.BusTrace.{TracedStep, Course}
use Rattle.console_spec.specs.Run.{Position, Turn, Goes, Stops, Unserved, goes_unless, next, turn_course, reset_course}
use Rattle.console_spec.specs.Run.{reset_fault, position_after_reset}
use Rattle.console_spec.specs.Telling.{on_rack, code_of as told_code}
use Rattle.console_spec.specs.declared.PortWrite.{PortWrite}
use Rattle.data_bus.specs.PageIndex.{followed}
use Rattle.data_bus.specs.declared.fault.BusFault.{BusFault}
use Rattle.data_bus.specs.declared.fault.BusFault.TheVariants.{Conflict, Undriven, Astray}
use Rattle.data_bus.specs.declared.index.Index.{Index}
use Rattle.f8_machine.specs.Advancing.{Follows}
use Rattle.f8_machine.specs.Faults.{fault_of}
use Rattle.f8_machine.specs.Fitting.{tried, tried_in}
use Rattle.f8_machine.specs.Keying.{is_own, keyed_machine}
use Rattle.f8_machine.specs.MachineState.{MachineState}
use Rattle.f8_machine.specs.Questions.{allowances, code_of, codes_of, followed_all}
use Rattle.f8_machine.specs.Refinement.{Refines, ResetRefines}
use Rattle.f8_machine.specs.Rounds.{heard_of}
use Rattle.f8_machine.specs.declared.heard.Heard.{Heard}
use Rattle.f8_machine.specs.declared.outcome.Mode.{Mode}
use Rattle.f8_machine.specs.declared.outcome.Mode.TheVariants.{Powered, Running, Stopped}
use Rattle.f8_machine.specs.declared.outcome.Outcome.{Outcome}
use Rattle.f8_machine.specs.declared.outcome.Outcome.TheVariants.{Done, Fault as FaultOutcome, Reserved}
use Rattle.rack_run.specs.Asking.{AsksOn, AsksWithin, served_codes, turn_codes, unserved_codes}
use Rattle.rack_run.proofs.Outcomes.{reserved_course}

-- ---- the codes of an outcome are those of the definitions

codes_told : (steps : List TracedStep) → codes_of (map heard_of steps) ≡ served_codes steps
codes_told [] = refl
codes_told (s ∷ steps) = ap (λ (l : List ℕ). s.romc ∷ l) (codes_told steps)

pub code_told : (fault : BusFault) → code_of fault ≡ told_code (fault_of fault)
code_told (Conflict romc parties) = refl
code_told (Undriven romc at) = refl
code_told (Astray romc socket at reference) = refl

-- all steps are served
served_tried : (course : Course) (steps : List Heard) (turn : Turn) (y : Position) → steps ≡ map heard_of course.steps →
    turn ≡ Goes y → codes_of steps ≡ served_codes course.steps ++ unserved_codes turn
served_tried course steps turn y recorded turns =
    ap codes_of recorded ∙ codes_told course.steps ∙ sym (append-nil (served_codes course.steps))
    ∙ ap (λ (t : Turn). served_codes course.steps ++ unserved_codes t) (sym turns)

-- one isn't
cut_tried : (course : Course) (steps : List Heard) (turn : Turn) (fault : BusFault) → steps ≡ map heard_of course.steps →
    turn ≡ Stops (Unserved (fault_of fault)) →
    codes_of steps ++ code_of fault ∷ [] ≡ served_codes course.steps ++ unserved_codes turn
cut_tried course steps turn fault recorded turns =
    ap (λ (l : List ℕ). l ++ code_of fault ∷ []) (ap codes_of recorded ∙ codes_told course.steps)
    ∙ ap (λ (romc : ℕ). served_codes course.steps ++ romc ∷ []) (code_told fault)
    ∙ ap (λ (t : Turn). served_codes course.steps ++ unserved_codes t) (sym turns)

outcome_tried : (outcome : Outcome) (before after : MachineState) (states : List ChipState) (x : Position) →
    Refines outcome before after states x →
    tried_in outcome ≡ served_codes (turn_course x).steps ++ unserved_codes (next x)
outcome_tried (Done wrote steps) before after states x is =
    served_tried (turn_course x) steps (next x) is.after is.recorded is.turns
outcome_tried (FaultOutcome fault long steps) before after states x is =
    cut_tried (turn_course x) steps (next x) fault is.recorded is.turns
outcome_tried (Reserved at code) before after states x is =
    sym (ap (λ (c : Course). served_codes c.steps ++ unserved_codes (next x)) (reserved_course x at code is.turns)
    ∙ ap unserved_codes is.turns)

-- the turn that reset is
abbrev pub reset_turn : Position → Turn
reset_turn x = goes_unless (reset_fault x) (position_after_reset x)

reset_tried : (outcome : Outcome) (before after : MachineState) (states : List ChipState) (x : Position) →
    ResetRefines outcome before after states x →
    tried_in outcome ≡ served_codes (reset_course x).steps ++ unserved_codes (reset_turn x)
reset_tried (Done wrote steps) before after states x is =
    served_tried (reset_course x) steps (reset_turn x) is.after is.recorded is.turns
reset_tried (FaultOutcome fault long steps) before after states x is =
    cut_tried (reset_course x) steps (reset_turn x) fault is.recorded is.turns
reset_tried (Reserved at code) before after states x is = absurd is

-- ---- allowances, one after another

pub allowances-append : (chips : ℕ) (first later : List ℕ) (index : Index) →
    allowances chips index (first ++ later) ≡ allowances chips index first + allowances chips (followed_all first index) later
allowances-append chips [] later index = omega arith
allowances-append chips (romc ∷ first) later index =
    let behind = allowances-append chips first later (followed romc index) in
    omega (arith, behind)

served_asks : (chips p q : ℕ) (old new : Index) (codes : List ℕ) → new ≡ followed_all codes old →
    q ≤ p + allowances chips old codes →
    AsksOn (λ l. allowances chips old l) (λ l. allowances chips new l) p q codes
served_asks chips p q old new codes follows few = record {
  whatever = λ later.
      let whole = allowances-append chips codes later old in
      let behind : allowances chips new later ≡ allowances chips (followed_all codes old) later =
      ap (λ (i : Index). allowances chips i later) follows in
      omega (arith, few, whole, behind);
}

-- a machine that was stopped tries none, and no machine more than its outcome tells
pub tried_most : (chips p q : ℕ) (index : Index) (outcome : Outcome) (mode : Mode) → q ≤ p + allowances chips index (tried mode outcome) →
    q ≤ p + allowances chips index (tried_in outcome)
tried_most chips p q index outcome Powered few = few
tried_most chips p q index outcome Running few = few
tried_most chips p q index outcome (Stopped why) few = omega (arith, few)

-- ---- an instruction

module _ (traced : Bool) (x : Position) (outcome : Outcome) (before after : MachineState) (news : List ChipState)
    (chips p q : ℕ) (refines : Refines outcome before after news x)
    (few : q ≤ p + allowances chips before.index (tried before.mode outcome)) where
  in_tried : q ≤ p + allowances chips before.index (tried_in outcome)
  in_tried = tried_most chips p q before.index outcome before.mode few

  pub turn_within : AsksWithin (λ l. allowances chips before.index l) p q (turn_codes (on_rack traced) x)
  turn_within =
      subst (λ (codes : List ℕ). q ≤ p + allowances chips before.index codes)
      (outcome_tried outcome before after news x refines) in_tried

  -- it is done
  pub turn_on : (olds : List ChipState) (wrote : Option PortWrite) (steps : List Heard) → outcome ≡ Done wrote steps →
      Follows outcome before after olds news →
      AsksOn (λ l. allowances chips before.index l) (λ l. allowances chips after.index l) p q
      (turn_codes (on_rack traced) x)
  turn_on olds wrote steps is follows =
      let index : after.index ≡ followed_all (codes_of steps) before.index = rw is at follows.index in
      let few_steps : q ≤ p + allowances chips before.index (codes_of steps) = rw is at in_tried in
      let codes : codes_of steps ≡ turn_codes (on_rack traced) x =
      rw is at (outcome_tried outcome before after news x refines) in
      subst (λ (l : List ℕ). AsksOn (λ k. allowances chips before.index k) (λ k. allowances chips after.index k) p q l)
      codes (served_asks chips p q before.index after.index (codes_of steps) index few_steps)

-- ---- reset

-- the codes that it tries
abbrev pub reset_codes : Position → List ℕ
reset_codes x = served_codes (reset_course x).steps ++ unserved_codes (reset_turn x)

module _ (x : Position) (outcome : Outcome) (before after : MachineState) (news : List ChipState)
    (chips p q : ℕ) (refines : ResetRefines outcome before after news x)
    (few : q ≤ p + allowances chips before.index (tried before.mode outcome)) where
  reset_in_tried : q ≤ p + allowances chips before.index (tried_in outcome)
  reset_in_tried = tried_most chips p q before.index outcome before.mode few

  pub reset_within : AsksWithin (λ l. allowances chips before.index l) p q (reset_codes x)
  reset_within =
      subst (λ (codes : List ℕ). q ≤ p + allowances chips before.index codes)
      (reset_tried outcome before after news x refines) reset_in_tried

  pub reset_on : (olds : List ChipState) (wrote : Option PortWrite) (steps : List Heard) → outcome ≡ Done wrote steps →
      Follows outcome before after olds news →
      AsksOn (λ l. allowances chips before.index l) (λ l. allowances chips after.index l) p q (reset_codes x)
  reset_on olds wrote steps is follows =
      let index : after.index ≡ followed_all (codes_of steps) before.index = rw is at follows.index in
      let few_steps : q ≤ p + allowances chips before.index (codes_of steps) = rw is at reset_in_tried in
      let codes : codes_of steps ≡ reset_codes x = rw is at (reset_tried outcome before after news x refines) in
      subst (λ (l : List ℕ). AsksOn (λ k. allowances chips before.index k) (λ k. allowances chips after.index k) p q l)
      codes (served_asks chips p q before.index after.index (codes_of steps) index few_steps)

-- ---- an event

pub event_asks : (chips p q : ℕ) (old new : MachineState) → new.index ≡ old.index → q ≡ p →
    AsksOn (λ l. allowances chips old.index l) (λ l. allowances chips new.index l) p q []
event_asks chips p q old new same none = record {
  whatever = λ later.
      let alike : allowances chips new.index later ≡ allowances chips old.index later =
      ap (λ (i : Index). allowances chips i later) same in
      omega (arith, alike, none);
}

pub keyed_index : (port byte : ℕ) (m : MachineState) → (keyed_machine port byte m).index ≡ m.index
keyed_index port byte m = by (is_own port) refl
  where
    by : (own : Bool) → is_own port ≡ own → (keyed_machine port byte m).index ≡ m.index
    by true e = rw e refl
    by false e = rw e refl
