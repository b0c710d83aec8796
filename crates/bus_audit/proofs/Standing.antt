-- Some served steps, one after another, beside those of a trace.
use Rattle.std.proofs.Common.{◌≡◌, ℕ, ◌+◌, ◌<◌, ◌≤◌, Bool, true, false, List, [], ◌∷◌, ◌++◌, length, drop, Option, Some, None}
use Rattle.std.proofs.Common.{refl, ◌∙◌, ap, arith, length-append}
use Rattle.std.proofs.lemmas.List.{length-map, drop-map}
use Rattle.std.specs.Prelude.{if◌then◌else◌, is_some}
use Rattle.f8_machine.specs.HeardSteps.{step_of}
use Rattle.data_bus.specs.declared.fault.BusFault.{BusFault}
use Rattle.f8_machine.specs.Faults.{fault_of}
use Rattle.f8_machine.specs.declared.heard.Heard.{Heard}
use Rattle.bus_audit.specs.Answers.{steps_of}
use Rattle.bus_audit.specs.PlainSteps.{plain, plain_fault, same_step, behind}
use Rattle.bus_audit.specs.Turns.{heard_told, stand_next}
use Rattle.bus_audit.specs.declared.step.TraceStep.{TraceStep}
use Rattle.bus_audit.specs.declared.trace.ToldLine.{ToldLine}

-- more steps than a trace has aren't its first
behind_short : (steps trace : List TraceStep) → length trace < length steps → behind steps trace ≡ None
behind_short [] trace few = absurd (omega arith)
behind_short (s ∷ steps) [] few = refl
behind_short (s ∷ steps) (t ∷ trace) few = by (same_step s t) (behind_short steps trace (omega arith))
  where
    by : (same : Bool) → behind steps trace ≡ None → (if same then behind steps trace else None) ≡ None
    by true none = none
    by false none = refl

pub short_stand : (served : List Heard) (rest : List ToldLine) → length rest < length served →
    stand_next (heard_told served) (steps_of rest) ≡ false
short_stand served rest few =
    let heard = length-map served (λ (h : Heard). plain (step_of h)) in
    let told = length-map rest (λ (l : ToldLine). l.step) in
    ap (λ (o : Option (List TraceStep)). is_some o) (behind_short (heard_told served) (steps_of rest) (omega (arith, heard, told)))

-- ---- some steps, and others behind them

-- those that are next are no more than the trace has
next_within : (steps trace : List TraceStep) → stand_next steps trace ≡ true → length steps ≤ length trace
next_within [] trace is = omega arith
next_within (s ∷ steps) [] is = absurd (cc)
next_within (s ∷ steps) (t ∷ trace) is = by (same_step s t) is (next_within steps trace)
  where
    by : (same : Bool) → is_some (if same then behind steps trace else None) ≡ true →
        (stand_next steps trace ≡ true → length steps ≤ length trace) → length (s ∷ steps) ≤ length (t ∷ trace)
    by true here rest = let fits : length steps ≤ length trace = rest here in omega arith
    by false here rest = absurd (cc)

both_next : (steps later trace : List TraceStep) → stand_next steps trace ≡ true →
    stand_next (steps ++ later) trace ≡ stand_next later (drop (length steps) trace)
both_next [] later trace is = refl
both_next (s ∷ steps) later [] is = absurd (cc)
both_next (s ∷ steps) later (t ∷ trace) is = by (same_step s t) is (both_next steps later trace)
  where
    by : (same : Bool) → is_some (if same then behind steps trace else None) ≡ true →
        (stand_next steps trace ≡ true → stand_next (steps ++ later) trace ≡ stand_next later (drop (length steps) trace)) →
        is_some (if same then behind (steps ++ later) trace else None) ≡ stand_next later (drop (length steps) trace)
    by true here rest = rest here
    by false here rest = absurd (cc)

first_not : (steps later trace : List TraceStep) → stand_next steps trace ≡ false → stand_next (steps ++ later) trace ≡ false
first_not [] later trace is = absurd (cc)
first_not (s ∷ steps) later [] is = refl
first_not (s ∷ steps) later (t ∷ trace) is = by (same_step s t) is (first_not steps later trace)
  where
    by : (same : Bool) → is_some (if same then behind steps trace else None) ≡ false →
        (stand_next steps trace ≡ false → stand_next (steps ++ later) trace ≡ false) →
        is_some (if same then behind (steps ++ later) trace else None) ≡ false
    by true here rest = rest here
    by false here rest = refl

pub drop_steps : (n : ℕ) (rest : List ToldLine) → drop n (steps_of rest) ≡ steps_of (drop n rest)
drop_steps n rest = drop-map (λ (l : ToldLine). l.step) n rest

module _ (served : List Heard) (rest : List ToldLine) where
  pub served_within : stand_next (heard_told served) (steps_of rest) ≡ true → length served ≤ length rest
  served_within is =
      let heard = length-map served (λ (h : Heard). plain (step_of h)) in
      let told = length-map rest (λ (l : ToldLine). l.step) in
      let within = next_within (heard_told served) (steps_of rest) is in
      omega (arith, heard, told, within)

  pub served_then : (later : List TraceStep) → stand_next (heard_told served) (steps_of rest) ≡ true →
      stand_next (heard_told served ++ later) (steps_of rest) ≡ stand_next later (steps_of (drop (length served) rest))
  served_then later is =
      both_next (heard_told served) later (steps_of rest) is
      ∙ ap (λ (n : ℕ). stand_next later (drop n (steps_of rest))) (length-map served (λ (h : Heard). plain (step_of h)))
      ∙ ap (stand_next later) (drop_steps (length served) rest)

  pub served_not : (later : List TraceStep) → stand_next (heard_told served) (steps_of rest) ≡ false →
      stand_next (heard_told served ++ later) (steps_of rest) ≡ false
  served_not later is = first_not (heard_told served) later (steps_of rest) is

-- and with one behind them that is not served
pub cut_within : (served : List Heard) (fault : BusFault) (long : Bool) (rest : List ToldLine) →
    stand_next (heard_told served ++ plain_fault (Some (fault_of fault, long))) (steps_of rest) ≡ true → length served + 1 ≤ length rest
cut_within served fault long rest is =
    let heard = length-map served (λ (h : Heard). plain (step_of h)) in
    let told = length-map rest (λ (l : ToldLine). l.step) in
    let all = length-append (heard_told served) (plain_fault (Some (fault_of fault, long))) in
    let within = next_within (heard_told served ++ plain_fault (Some (fault_of fault, long))) (steps_of rest) is in
    omega (arith, heard, told, all, within)
