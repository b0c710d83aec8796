-- What the chips hear in reset and in an instruction, and what they are asked.
use Rattle.std.proofs.Common.{◌≡◌, ℕ, ◌+◌, ◌≤◌, Bool, true, false, List, [], ◌∷◌, ◌++◌, length, map, drop, refl, ◌∙◌, ap, sym, subst, arith}
use Rattle.std.proofs.Common.{append-nil, append_assoc, Some, inl, inr}
use Rattle.std.proofs.lemmas.List.{length-map}
use Rattle.f8_spec.specs.ChipState.{ChipState}
use Rattle.console_spec.specs.BusTrace.{TracedStep}
use Rattle.data_bus.specs.declared.index.Index.{Index}
use Rattle.data_bus.specs.declared.fault.BusFault.{BusFault}
use Rattle.f8_machine.specs.Advancing.{Follows}
use Rattle.f8_machine.specs.Faults.{fault_of}
use Rattle.f8_machine.specs.Fitting.{tried}
use Rattle.f8_machine.specs.HeardSteps.{step_of}
use Rattle.f8_machine.specs.MachineState.{MachineState, steps_in}
use Rattle.f8_machine.specs.Questions.{allowances, code_of, codes_of, followed_all}
use Rattle.f8_machine.specs.Rounds.{RackRuns, heard_of}
use Rattle.f8_machine.specs.declared.heard.Heard.{Heard}
use Rattle.f8_machine.specs.declared.outcome.Outcome.{Outcome}
use Rattle.f8_machine.specs.declared.outcome.Outcome.TheVariants.{Done, Fault, Reserved}
use Rattle.f8_machine.specs.declared.record.TheConstants.{MOST_HEARD}
use Rattle.rack_run.specs.Asking.{AsksOn, AsksWithin, served_codes}
use Rattle.rack_run.proofs.MachineAsking.{allowances-append, tried_most}
use Rattle.bus_audit.specs.Audits.{Hears}
use Rattle.bus_audit.specs.PlainSteps.{plain, plain_fault}
use Rattle.bus_audit.specs.Turns.{heard_told, outcome_told, stand_next, judged}
use Rattle.bus_audit.specs.declared.step.TraceStep.{TraceStep}
use Rattle.bus_audit.proofs.Behind.{behind_is}
use Rattle.bus_audit.proofs.OutcomeLaws.{found_behind, length_told, length_cut}

-- ---- the steps as the definitions have them

abbrev pub traced_all : List Heard → List TracedStep
traced_all steps = map step_of steps

heard_again : (steps : List Heard) → map heard_of (traced_all steps) ≡ steps
heard_again [] = refl
heard_again (h ∷ steps) = ap (λ (later : List Heard). h ∷ later) (heard_again steps)

codes_again : (steps : List Heard) → served_codes (traced_all steps) ≡ codes_of steps
codes_again [] = refl
codes_again (h ∷ steps) = ap (λ (later : List ℕ). h.romc ∷ later) (codes_again steps)

told_again : (steps : List Heard) → map plain (traced_all steps) ≡ heard_told steps
told_again [] = refl
told_again (h ∷ steps) = ap (λ (later : List TraceStep). plain (step_of h) ∷ later) (told_again steps)

short_again : (steps : List Heard) → length steps ≤ MOST_HEARD → length (traced_all steps) ≤ MOST_HEARD
short_again steps few = subst (λ (n : ℕ). n ≤ MOST_HEARD) (sym (length-map steps step_of)) few

-- ---- an outcome

module _ (chips : ℕ) (old new : MachineState) (olds news : List ChipState) (before after : ℕ) (trace : List TraceStep) where
  ran_again : (steps : List Heard) → RackRuns steps olds news → RackRuns (map heard_of (traced_all steps)) olds news
  ran_again steps ran = subst (λ (hs : List Heard). RackRuns hs olds news) (sym (heard_again steps)) ran

  -- what is left to be asked behind served steps
  asks_on : (steps : List Heard) → new.index ≡ followed_all (codes_of steps) old.index →
      after ≤ before + allowances chips old.index (codes_of steps) →
      AsksOn (λ codes. allowances chips old.index codes) (λ codes. allowances chips new.index codes) before after (served_codes (traced_all steps))
  asks_on steps follows few =
      subst (AsksOn (λ codes. allowances chips old.index codes) (λ codes. allowances chips new.index codes) before after)
      (sym (codes_again steps)) (record {
        whatever = λ later.
            let whole = allowances-append chips (codes_of steps) later old.index in
            let behind_steps : allowances chips new.index later ≡ allowances chips (followed_all (codes_of steps) old.index) later =
            ap (λ (i : Index). allowances chips i later) follows in
            omega (arith, few, whole, behind_steps);
      })

  asks_within : (steps : List Heard) (unserved : List ℕ) → after ≤ before + allowances chips old.index (codes_of steps ++ unserved) →
      AsksWithin (λ codes. allowances chips old.index codes) before after (served_codes (traced_all steps) ++ unserved)
  asks_within steps unserved few =
      subst (λ (codes : List ℕ). after ≤ before + allowances chips old.index (codes ++ unserved)) (sym (codes_again steps)) few

  asks_all : (steps : List Heard) → after ≤ before + allowances chips old.index (codes_of steps) →
      AsksWithin (λ codes. allowances chips old.index codes) before after (served_codes (traced_all steps) ++ [])
  asks_all steps few =
      asks_within steps []
      (subst (λ (codes : List ℕ). after ≤ before + allowances chips old.index codes) (sym (append-nil (codes_of steps))) few)

  begins_all : (steps : List Heard) → stand_next (heard_told steps) trace ≡ true → map plain (traced_all steps) ++ drop (length steps) trace ≡ trace
  begins_all steps is =
      ap (λ (told : List TraceStep). told ++ drop (length steps) trace) (told_again steps)
      ∙ sym (behind_is (heard_told steps) trace (drop (length steps) trace)
      (found_behind (heard_told steps) trace (length steps) (length_told steps) is))

  begins_cut : (steps : List Heard) (fault : BusFault) (long : Bool) → stand_next (outcome_told (Fault fault long steps)) trace ≡ true →
      map plain (traced_all steps) ++ (plain_fault (Some (fault_of fault, long)) ++ drop (length steps + 1) trace) ≡ trace
  begins_cut steps fault long is =
      let told = outcome_told (Fault fault long steps) in
      let rest = drop (length steps + 1) trace in
      ap (λ (l : List TraceStep). l ++ (plain_fault (Some (fault_of fault, long)) ++ rest)) (told_again steps)
      ∙ sym (append_assoc (heard_told steps) (plain_fault (Some (fault_of fault, long))) rest)
      ∙ sym (behind_is told trace rest (found_behind told trace (length steps + 1) (length_cut steps (fault_of fault) long) is))

  pub hears_are : (outcome : Outcome) → Follows outcome old new olds news →
      after ≤ before + allowances chips old.index (tried old.mode outcome) → length (steps_in outcome) ≤ MOST_HEARD →
      Hears (judged outcome (stand_next (outcome_told outcome) trace)) chips old.index new.index olds news before after trace
  hears_are (Done wrote steps) follows few short = by (stand_next (heard_told steps) trace) refl
    where
      most : after ≤ before + allowances chips old.index (codes_of steps)
      most = tried_most chips before after old.index (Done wrote steps) old.mode few

      by : (stands : Bool) → stand_next (heard_told steps) trace ≡ stands →
          Hears (judged (Done wrote steps) stands) chips old.index new.index olds news before after trace
      by true is = record {
        steps = traced_all steps;
        short = short_again steps short;
        ran = ran_again steps follows.ran;
        begins = begins_all steps is;
        asks = asks_on steps follows.index most;
      }
      by false is = record {
        steps = traced_all steps;
        short = short_again steps short;
        ran = ran_again steps follows.ran;
        begins = inl refl;
        asks = ([], omega arith, asks_all steps most);
      }
  hears_are (Fault fault long steps) follows few short = by (stand_next (outcome_told (Fault fault long steps)) trace) refl
    where
      by : (stands : Bool) → stand_next (outcome_told (Fault fault long steps)) trace ≡ stands →
          Hears (judged (Fault fault long steps) stands) chips old.index new.index olds news before after trace
      by true is = record {
        steps = traced_all steps;
        short = short_again steps short;
        ran = ran_again steps follows.ran;
        begins = inr ((fault_of fault, long), begins_cut steps fault long is);
        asks = (
          code_of fault ∷ [],
          omega arith,
          asks_within steps (code_of fault ∷ []) (tried_most chips before after old.index (Fault fault long steps) old.mode few),
        );
      }
      by false is = record {
        steps = traced_all steps;
        short = short_again steps short;
        ran = ran_again steps follows.ran;
        begins = inl refl;
        asks = (
          code_of fault ∷ [],
          omega arith,
          asks_within steps (code_of fault ∷ []) (tried_most chips before after old.index (Fault fault long steps) old.mode few),
        );
      }
  hears_are (Reserved at code) follows few short = by (stand_next [] trace)
    where
      by : (stands : Bool) → Hears (judged (Reserved at code) stands) chips old.index new.index olds news before after trace
      by true = record {
        steps = [];
        short = short;
        ran = follows.ran;
        begins = inl refl;
        asks = ([], omega arith, tried_most chips before after old.index (Reserved at code) old.mode few);
      }
      by false = record {
        steps = [];
        short = short;
        ran = follows.ran;
        begins = inl refl;
        asks = ([], omega arith, tried_most chips before after old.index (Reserved at code) old.mode few);
      }
