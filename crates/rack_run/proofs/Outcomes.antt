-- What is told and heard of an outcome is that of the definitions.
use Rattle.std.proofs.Common.{◌≡◌, ℕ, Bool, List, [], ◌∷◌, ◌++◌, map, Option, Some, None, refl, sym, ap, ◌∙◌}
use Rattle.std.proofs.lemmas.List.{append-nil}
use Rattle.f8_spec.specs.ChipState.{ChipState}
use Rattle.f8_spec.specs.Instructions.{decoded}
use Rattle.f8_spec.specs.declared.instructions.Op.{Op}
use Rattle.console_spec.specs.BusTrace.{TracedStep, Course}
use Rattle.console_spec.specs.Run.{Position, Stops, Reserved as ReservedStop, goes_unless, decided, next, opcode_at}
use Rattle.console_spec.specs.Run.{instruction_fault, position_after, course_as, turn_course, reset_course}
use Rattle.console_spec.specs.Services.{Fault}
use Rattle.console_spec.specs.Telling.{Told, Traced, told_course, told_steps, code_of}
use Rattle.f8_machine.specs.Faults.{fault_of}
use Rattle.f8_machine.specs.HeardSteps.{step_of}
use Rattle.f8_machine.specs.MachineState.{MachineState, steps_in}
use Rattle.f8_machine.specs.Refinement.{Refines, ResetRefines}
use Rattle.f8_machine.specs.Rounds.{heard_of}
use Rattle.f8_machine.specs.declared.heard.Heard.{Heard}
use Rattle.f8_machine.specs.declared.outcome.Outcome.{Outcome}
use Rattle.f8_machine.specs.declared.outcome.Outcome.TheVariants.{Done, Fault as FaultOutcome, Reserved}
use Rattle.rack_run.specs.Texts.{is_traced, served_told, unserved_told, outcome_told}
use Rattle.rack_run.specs.declared.detail.Detail.{Detail}
use Rattle.rack_run.specs.declared.detail.Detail.TheVariants.{Nothing, Writes, Steps}

seen_again : (steps : List TracedStep) → map (λ (h : Heard). Traced (step_of h)) (map heard_of steps) ≡ map Traced steps
seen_again [] = refl
seen_again (s ∷ steps) = ap (λ (told : List Told). Traced s ∷ told) (seen_again steps)

-- all steps are served
served_is : (detail : Detail) (course : Course) (steps : List Heard) →
    course ≡ record { steps = course.steps; fault = None } →
    steps ≡ map heard_of course.steps →
    served_told detail steps ≡ told_steps (is_traced detail) course
served_is Nothing course steps whole same = refl
served_is Writes course steps whole same = refl
served_is Steps course steps whole same =
    ap (map (λ (h : Heard). Traced (step_of h))) same
    ∙ seen_again course.steps
    ∙ sym (append-nil (map Traced course.steps))
    ∙ sym (ap told_course whole)

-- one isn't
cut_is : (detail : Detail) (course : Course) (steps : List Heard) (fault : Fault) (long : Bool) →
    course ≡ record { steps = course.steps; fault = Some (fault, long) } →
    steps ≡ map heard_of course.steps →
    served_told detail steps ++ unserved_told detail (code_of fault) long ≡ told_steps (is_traced detail) course
cut_is Nothing course steps fault long cut same = refl
cut_is Writes course steps fault long cut same = refl
cut_is Steps course steps fault long cut same =
    ap (λ (told : List Told). told ++ unserved_told Steps (code_of fault) long)
    (ap (map (λ (h : Heard). Traced (step_of h))) same ∙ seen_again course.steps)
    ∙ sym (ap told_course cut)

-- a reserved opcode has no bus steps
goes_or_faults : (fault : Option Fault) (y : Position) (at code : ℕ) →
    goes_unless fault y ≡ Stops (ReservedStop at code) → ⊥
goes_or_faults None y at code e = cc
goes_or_faults (Some fault) y at code e = cc

reserved_as : (x : Position) (found : Option Op) (at code : ℕ) →
    decided (λ op. goes_unless (instruction_fault op x) (position_after op x)) x.flat.state.flow.p (opcode_at x) found
    ≡ Stops (ReservedStop at code) →
    course_as x found ≡ record { steps = []; fault = None }
reserved_as x None at code e = refl
reserved_as x (Some op) at code e = absurd (goes_or_faults (instruction_fault op x) (position_after op x) at code e)

pub reserved_course : (x : Position) (at code : ℕ) → next x ≡ Stops (ReservedStop at code) →
    turn_course x ≡ record { steps = []; fault = None }
reserved_course x at code e = reserved_as x (decoded (opcode_at x)) at code e

none_told : (detail : Detail) → told_steps (is_traced detail) (record { steps = []; fault = None }) ≡ []
none_told Nothing = refl
none_told Writes = refl
none_told Steps = refl

-- ---- instructions

pub outcome_is : (detail : Detail) (outcome : Outcome) (before after : MachineState) (states : List ChipState)
    (x : Position) →
    Refines outcome before after states x →
    outcome_told detail outcome ≡ told_steps (is_traced detail) (turn_course x)
outcome_is detail (Done wrote steps) before after states x is =
    served_is detail (turn_course x) steps is.trace is.recorded
outcome_is detail (FaultOutcome fault long steps) before after states x is =
    cut_is detail (turn_course x) steps (fault_of fault) long is.trace is.recorded
outcome_is detail (Reserved at code) before after states x is =
    sym (ap (told_steps (is_traced detail)) (reserved_course x at code is.turns) ∙ none_told detail)

pub outcome_heard : (outcome : Outcome) (before after : MachineState) (states : List ChipState) (x : Position) →
    Refines outcome before after states x →
    steps_in outcome ≡ map heard_of (turn_course x).steps
outcome_heard (Done wrote steps) before after states x is = is.recorded
outcome_heard (FaultOutcome fault long steps) before after states x is = is.recorded
outcome_heard (Reserved at code) before after states x is =
    sym (ap (λ (c : Course). map heard_of c.steps) (reserved_course x at code is.turns))

-- ---- reset

pub reset_is : (detail : Detail) (outcome : Outcome) (before after : MachineState) (states : List ChipState)
    (x : Position) →
    ResetRefines outcome before after states x →
    outcome_told detail outcome ≡ told_steps (is_traced detail) (reset_course x)
reset_is detail (Done wrote steps) before after states x is =
    served_is detail (reset_course x) steps is.trace is.recorded
reset_is detail (FaultOutcome fault long steps) before after states x is =
    cut_is detail (reset_course x) steps (fault_of fault) long is.trace is.recorded
reset_is detail (Reserved at code) before after states x is = absurd is

pub reset_heard : (outcome : Outcome) (before after : MachineState) (states : List ChipState) (x : Position) →
    ResetRefines outcome before after states x →
    steps_in outcome ≡ map heard_of (reset_course x).steps
reset_heard (Done wrote steps) before after states x is = is.recorded
reset_heard (FaultOutcome fault long steps) before after states x is = is.recorded
reset_heard (Reserved at code) before after states x is = absurd is
