-- What a machine answers, beside the steps that stand next in a trace.
use Rattle.std.proofs.Common.{◌≡◌, ℕ, ◌+◌, Bool, true, false, List, [], ◌∷◌, ◌++◌, length, map, drop, Option, Some, None, refl, ◌∙◌, ap}
use Rattle.std.proofs.Common.{sym, subst}
use Rattle.std.proofs.Common.{arith, append-nil, drop_at, length-append}
use Rattle.std.proofs.lemmas.List.{length-map}
use Rattle.std.specs.Prelude.{is_some}
use Rattle.f8_spec.specs.ChipState.{ChipState}
use Rattle.f8_spec.specs.Instructions.{decoded}
use Rattle.f8_spec.specs.declared.instructions.Op.{Op}
use Rattle.console_spec.specs.BusTrace.{TracedStep, Course}
use Rattle.console_spec.specs.Run.{Position, Turn, Goes, Stops, Unserved, Reserved, goes_unless, next, decided, course_as, turn_course}
use Rattle.console_spec.specs.Run.{opcode_at, instruction_course, instruction_fault, position_after}
use Rattle.console_spec.specs.Run.{position_after_reset, reset_course, reset_fault}
use Rattle.console_spec.specs.Services.{Fault}
use Rattle.data_bus.specs.declared.fault.BusFault.{BusFault}
use Rattle.f8_machine.specs.Faults.{fault_of}
use Rattle.f8_machine.specs.HeardSteps.{step_of}
use Rattle.f8_machine.specs.MachineState.{MachineState}
use Rattle.f8_machine.specs.Refinement.{Represents, Refines, ResetRefines}
use Rattle.f8_machine.specs.Rounds.{heard_of}
use Rattle.f8_machine.specs.declared.heard.Heard.{Heard}
use Rattle.f8_machine.specs.declared.outcome.Outcome.{Outcome}
use Rattle.f8_machine.specs.declared.outcome.Outcome.TheVariants.{Done, Fault as FaultOutcome, Reserved as ReservedOutcome}
use Rattle.bus_audit.specs.PlainSteps.{plain, plain_course, plain_fault, behind}
use Rattle.bus_audit.specs.Turns.{heard_told, outcome_told, stand_next, judged, reserved, apart, cut, Turns}
use Rattle.bus_audit.specs.Turns.{IsOverFirst, TurnsFirst}
use Rattle.bus_audit.specs.declared.step.TraceStep.{TraceStep}
use Rattle.bus_audit.proofs.Behind.{behind_is}
use Rattle.bus_audit.proofs.Exact.{tells_some}

-- ---- steps that stand next

some_of : (o : Option (List TraceStep)) → is_some o ≡ true → (rest : List TraceStep) × (o ≡ Some rest)
some_of None is = absurd (cc)
some_of (Some rest) is = (rest, refl)

none_of : (o : Option (List TraceStep)) → is_some o ≡ false → o ≡ None
none_of None is = refl
none_of (Some rest) is = absurd (cc)

pub found_behind : (steps trace : List TraceStep) (n : ℕ) → length steps ≡ n → stand_next steps trace ≡ true → behind steps trace ≡ Some (drop n trace)
found_behind steps trace n long is =
    let found = some_of (behind steps trace) is in
    found.1
    ∙ ap (λ (rest : List TraceStep). Some rest)
    (sym (ap (drop n) (behind_is steps trace found.0 found.1) ∙ drop_at steps found.0 n long))

-- ---- the steps of an outcome

map_told : (steps : List TracedStep) → heard_told (map heard_of steps) ≡ map plain steps
map_told [] = refl
map_told (s ∷ steps) = ap (λ (told : List TraceStep). plain s ∷ told) (map_told steps)

pub length_told : (steps : List Heard) → length (heard_told steps) ≡ length steps
length_told [] = refl
length_told (h ∷ steps) = length-map (h ∷ steps) (λ (k : Heard). plain (step_of k))

served_told : (course whole : Course) (steps : List Heard) → whole ≡ record { steps = course.steps; fault = None } →
    steps ≡ map heard_of course.steps → heard_told steps ≡ plain_course whole
served_told course whole steps is recorded =
    ap heard_told recorded ∙ map_told course.steps ∙ sym (append-nil (map plain course.steps)) ∙ sym (ap plain_course is)

cut_told : (course whole : Course) (steps : List Heard) (fault : Fault) (long : Bool) →
    whole ≡ record { steps = course.steps; fault = Some (fault, long) } → steps ≡ map heard_of course.steps →
    heard_told steps ++ plain_fault (Some (fault, long)) ≡ plain_course whole
cut_told course whole steps fault long is recorded =
    ap (λ (told : List TraceStep). told ++ plain_fault (Some (fault, long))) (ap heard_told recorded ∙ map_told course.steps)
    ∙ sym (ap plain_course is)

pub length_cut : (steps : List Heard) (fault : Fault) (long : Bool) →
    length (heard_told steps ++ plain_fault (Some (fault, long))) ≡ length steps + 1
length_cut steps fault long =
    let told = length_told steps in
    length-append (heard_told steps) (plain_fault (Some (fault, long))) ∙ ap (λ (n : ℕ). n + 1) told

-- ---- the instruction of a turn

record IsDoneBy (x after : Position) : Type 0 where
  op : Op
  is : decoded (opcode_at x) ≡ Some op
  served : instruction_fault op x ≡ None
  at : position_after op x ≡ after
  course : turn_course x ≡ instruction_course op x

record IsCutBy (x : Position) (fault : Fault) : Type 0 where
  op : Op
  is : decoded (opcode_at x) ≡ Some op
  cuts : instruction_fault op x ≡ Some fault
  course : turn_course x ≡ instruction_course op x

module _ (x : Position) where
  abbrev turn_for : Op → Turn
  turn_for op = goes_unless (instruction_fault op x) (position_after op x)

  course_for : (op : Op) → decoded (opcode_at x) ≡ Some op → turn_course x ≡ instruction_course op x
  course_for op is = ap (λ (o : Option Op). course_as x o) is

  done_by : (after : Position) → next x ≡ Goes after → IsDoneBy x after
  done_by after turns = by (decoded (opcode_at x)) refl turns
    where
      by_fault : (op : Op) → decoded (opcode_at x) ≡ Some op → (fault : Option Fault) → instruction_fault op x ≡ fault →
          goes_unless fault (position_after op x) ≡ Goes after → IsDoneBy x after
      by_fault op is None why e = record { op = op; is = is; served = why; at = (cc); course = course_for op is }
      by_fault op is (Some fault) why e = absurd (cc)

      by : (o : Option Op) → decoded (opcode_at x) ≡ o → decided turn_for x.flat.state.flow.p (opcode_at x) o ≡ Goes after → IsDoneBy x after
      by None is e = absurd (cc)
      by (Some op) is e = by_fault op is (instruction_fault op x) refl e

  cut_by : (fault : Fault) → next x ≡ Stops (Unserved fault) → IsCutBy x fault
  cut_by fault turns = by (decoded (opcode_at x)) refl turns
    where
      by_fault : (op : Op) → decoded (opcode_at x) ≡ Some op → (why : Option Fault) → instruction_fault op x ≡ why →
          goes_unless why (position_after op x) ≡ Stops (Unserved fault) → IsCutBy x fault
      by_fault op is None why e = absurd (cc)
      by_fault op is (Some other) why e =
          let same : other ≡ fault = cc in
          record { op = op; is = is; cuts = why ∙ ap (λ (f : Fault). Some f) same; course = course_for op is }

      by : (o : Option Op) → decoded (opcode_at x) ≡ o → decided turn_for x.flat.state.flow.p (opcode_at x) o ≡ Stops (Unserved fault) →
          IsCutBy x fault
      by None is e = absurd (cc)
      by (Some op) is e = by_fault op is (instruction_fault op x) refl e

  reserved_by : (at code : ℕ) → next x ≡ Stops (Reserved at code) → decoded (opcode_at x) ≡ None
  reserved_by at code turns = by (decoded (opcode_at x)) refl turns
    where
      by_fault : (why : Option Fault) (q : Position) → goes_unless why q ≡ Stops (Reserved at code) → ⊥
      by_fault None q e = cc
      by_fault (Some fault) q e = cc

      by : (o : Option Op) → decoded (opcode_at x) ≡ o → decided turn_for x.flat.state.flow.p (opcode_at x) o ≡ Stops (Reserved at code) →
          decoded (opcode_at x) ≡ None
      by None is e = is
      by (Some op) is e = absurd (by_fault (instruction_fault op x) (position_after op x) e)

-- ---- an instruction beside the trace

module _ (x : Position) (before after : MachineState) (states : List ChipState) (trace : List TraceStep) where
  done_turns : (steps : List Heard) (q : Position) → IsDoneBy x q → heard_told steps ≡ plain_course (turn_course x) → Represents after states q →
      (wrote : Option _) (stands : Bool) → stand_next (heard_told steps) trace ≡ stands →
      Turns (judged (Done wrote steps) stands) (Represents after states) x trace
  done_turns steps q d told represents wrote true is =
      let whole : heard_told steps ≡ plain_course (instruction_course d.op x) = told ∙ ap plain_course d.course in
      let long = length_told steps in
      let some = tells_some d.op x in
      let size : length (plain_course (instruction_course d.op x)) ≡ length steps = sym (ap (λ (l : List TraceStep). length l) whole) ∙ long in
      record {
        op = d.op;
        is = d.is;
        served = d.served;
        next = subst (λ (l : List TraceStep). behind l trace ≡ Some (drop (length steps) trace)) whole
            (found_behind (heard_told steps) trace (length steps) long is);
        some = omega (arith, some, size);
        at = subst (Represents after states) (sym d.at) represents;
      }
  done_turns steps q d told represents wrote false is =
      apart d.op d.is
      (subst (λ (l : List TraceStep). behind l trace ≡ None) (told ∙ ap plain_course d.course) (none_of (behind (heard_told steps) trace) is))

  cut_turns : (steps : List Heard) (fault : BusFault) (long : Bool) → IsCutBy x (fault_of fault) →
      heard_told steps ++ plain_fault (Some (fault_of fault, long)) ≡ plain_course (turn_course x) → (stands : Bool) →
      stand_next (heard_told steps ++ plain_fault (Some (fault_of fault, long))) trace ≡ stands →
      Turns (judged (FaultOutcome fault long steps) stands) (Represents after states) x trace
  cut_turns steps fault long d told true is =
      let all = heard_told steps ++ plain_fault (Some (fault_of fault, long)) in
      cut d.op (fault_of fault) (length steps + 1) d.is d.cuts
      (subst (λ (l : List TraceStep). behind l trace ≡ Some (drop (length steps + 1) trace)) (told ∙ ap plain_course d.course)
      (found_behind all trace (length steps + 1) (length_cut steps (fault_of fault) long) is))
  cut_turns steps fault long d told false is =
      let all = heard_told steps ++ plain_fault (Some (fault_of fault, long)) in
      apart d.op d.is
      (subst (λ (l : List TraceStep). behind l trace ≡ None) (told ∙ ap plain_course d.course) (none_of (behind all trace) is))

  pub turns_are : (outcome : Outcome) → Refines outcome before after states x →
      Turns (judged outcome (stand_next (outcome_told outcome) trace)) (Represents after states) x trace
  turns_are (Done wrote steps) is =
      done_turns steps is.after (done_by x is.after is.turns) (served_told (turn_course x) (turn_course x) steps is.trace is.recorded) is.represents
      wrote (stand_next (heard_told steps) trace) refl
  turns_are (FaultOutcome fault long steps) is =
      cut_turns steps fault long (cut_by x (fault_of fault) is.turns)
      (cut_told (turn_course x) (turn_course x) steps (fault_of fault) long is.trace is.recorded)
      (stand_next (heard_told steps ++ plain_fault (Some (fault_of fault, long))) trace) refl
  turns_are (ReservedOutcome at code) is = by (stand_next [] trace)
    where
      by : (stands : Bool) → Turns (judged (ReservedOutcome at code) stands) (Represents after states) x trace
      by true = reserved (reserved_by x at code is.turns)
      by false = reserved (reserved_by x at code is.turns)

-- ---- reset beside the trace

done_first : (x after : Position) → goes_unless (reset_fault x) (position_after_reset x) ≡ Goes after →
    (reset_fault x ≡ None) × (position_after_reset x ≡ after)
done_first x after turns = by (reset_fault x) refl turns
  where
    by : (why : Option Fault) → reset_fault x ≡ why → goes_unless why (position_after_reset x) ≡ Goes after →
        (reset_fault x ≡ None) × (position_after_reset x ≡ after)
    by None is e = (is, (cc))
    by (Some fault) is e = absurd (cc)

cut_first : (x : Position) (fault : Fault) → goes_unless (reset_fault x) (position_after_reset x) ≡ Stops (Unserved fault) →
    reset_fault x ≡ Some fault
cut_first x fault turns = by (reset_fault x) refl turns
  where
    by : (why : Option Fault) → reset_fault x ≡ why → goes_unless why (position_after_reset x) ≡ Stops (Unserved fault) →
        reset_fault x ≡ Some fault
    by None is e = absurd (cc)
    by (Some other) is e = let same : other ≡ fault = cc in is ∙ ap (λ (f : Fault). Some f) same

module _ (x : Position) (before after : MachineState) (states : List ChipState) (trace : List TraceStep) where
  done_begins : (steps : List Heard) (q : Position) → reset_fault x ≡ None → position_after_reset x ≡ q →
      heard_told steps ≡ plain_course (reset_course x) → Represents after states q → (wrote : Option _) (stands : Bool) →
      stand_next (heard_told steps) trace ≡ stands → TurnsFirst (judged (Done wrote steps) stands) (Represents after states) x trace
  done_begins steps q served at told represents wrote true is = record {
    served = served;
    next = subst (λ (l : List TraceStep). behind l trace ≡ Some (drop (length steps) trace)) told
        (found_behind (heard_told steps) trace (length steps) (length_told steps) is);
    at = subst (Represents after states) (sym at) represents;
  }
  done_begins steps q served at told represents wrote false is =
      IsOverFirst.apart (subst (λ (l : List TraceStep). behind l trace ≡ None) told (none_of (behind (heard_told steps) trace) is))

  cut_begins : (steps : List Heard) (fault : BusFault) (long : Bool) → reset_fault x ≡ Some (fault_of fault) →
      heard_told steps ++ plain_fault (Some (fault_of fault, long)) ≡ plain_course (reset_course x) → (stands : Bool) →
      stand_next (heard_told steps ++ plain_fault (Some (fault_of fault, long))) trace ≡ stands →
      TurnsFirst (judged (FaultOutcome fault long steps) stands) (Represents after states) x trace
  cut_begins steps fault long cuts told true is =
      let all = heard_told steps ++ plain_fault (Some (fault_of fault, long)) in
      IsOverFirst.cut (fault_of fault) (length steps + 1) cuts
      (subst (λ (l : List TraceStep). behind l trace ≡ Some (drop (length steps + 1) trace)) told
      (found_behind all trace (length steps + 1) (length_cut steps (fault_of fault) long) is))
  cut_begins steps fault long cuts told false is =
      let all = heard_told steps ++ plain_fault (Some (fault_of fault, long)) in
      IsOverFirst.apart (subst (λ (l : List TraceStep). behind l trace ≡ None) told (none_of (behind all trace) is))

  pub begins_are : (outcome : Outcome) → ResetRefines outcome before after states x →
      TurnsFirst (judged outcome (stand_next (outcome_told outcome) trace)) (Represents after states) x trace
  begins_are (Done wrote steps) is =
      let d = done_first x is.after is.turns in
      done_begins steps is.after d.0 d.1 (served_told (reset_course x) (reset_course x) steps is.trace is.recorded) is.represents
      wrote (stand_next (heard_told steps) trace) refl
  begins_are (FaultOutcome fault long steps) is =
      cut_begins steps fault long (cut_first x (fault_of fault) is.turns)
      (cut_told (reset_course x) (reset_course x) steps (fault_of fault) long is.trace is.recorded)
      (stand_next (heard_told steps ++ plain_fault (Some (fault_of fault, long))) trace) refl
  begins_are (ReservedOutcome at code) is = absurd is
