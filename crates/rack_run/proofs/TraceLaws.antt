-- What a trace tells agrees with how the run goes on.
use Rattle.std.proofs.Common.{◌≡◌, ℕ, ◌+◌, Bool, true, false, List, [], ◌∷◌, ◌++◌, Option, Some, None, refl, ◌∙◌, ap}
use Rattle.std.proofs.Common.{sym, subst}
use Rattle.std.proofs.lemmas.List.Sums.{sum_by-cons}
use Rattle.std.specs.Prelude.{if◌then◌else◌}
use Rattle.f8_spec.specs.Instructions.{decoded, row_of, step_clocks}
use Rattle.f8_spec.specs.MicroSteps.{Step, Operand, long_step, short_step, reset_steps}
use Rattle.f8_spec.specs.MicroSteps.{clocks_along}
use Rattle.f8_spec.specs.BusArbitration.{Ruling, Served, Conflict, Undriven, Astray, rule_of}
use Rattle.f8_spec.specs.declared.instructions.Op.{Op}
use Rattle.f8_spec.specs.declared.instructions.Row.{Row}
use Rattle.f8_spec.specs.declared.instructions.Row.TheVariants.{StackToK, DataToPair, ReadData, StoreData, Immediate}
use Rattle.f8_spec.specs.declared.instructions.Row.TheVariants.{PortIn, PortOut, Call, Jump, LoadData, Branch}
use Rattle.f8_spec.specs.declared.instructions.Row.TheVariants.{BranchIsar, ShortIn, ShortOut, Idle, StackFromK, CallK}
use Rattle.f8_spec.specs.declared.instructions.Row.TheVariants.{JumpQ, DataFromQ, DataFromH, Return, Exchange, AddData}
use Rattle.f8_spec.specs.declared.instructions.Row.TheVariants.{Plain, PlainLong}
use Rattle.console_spec.specs.Processor.{Flow, Inputs}
use Rattle.console_spec.specs.CounterCopies.{Copy}
use Rattle.console_spec.specs.BusAccesses.{Access, ahead, accesses_before_fetch, last_access, accesses_of}
use Rattle.console_spec.specs.BusTrace.{Course, traced, with_step, course_by, course_of, is_access, unaccessed}
use Rattle.console_spec.specs.BusTrace.{with_unaccessed, ending_steps, steps_with}
use Rattle.console_spec.specs.Run.{Position, Turn, Goes, decided, goes_unless, instruction_fault, instruction_course}
use Rattle.console_spec.specs.Run.{position_after, opcode_at, course_as, gets_at, gets_all_at, reset_access, reset_gets}
use Rattle.console_spec.specs.Run.{reset_course, reset_fault}
use Rattle.console_spec.specs.Services.{Fault, access_ruling, fault_by, first_fault, or_later}
use Rattle.console_spec.proofs.InputLaws.{accesses-with_opcode}
use Rattle.f8_machine.proofs.Rows.{clocks_with}
use Rattle.rack_run.specs.TraceLaw.{TraceLaw, fault_in, fault_of_turn, clocks_heard}

-- steps and accesses in one order: a step that chips serve has the next access with its code, and any other has none
data Pairs : List Step → List Access → Type 0 where
  ended : Pairs [] []
  idle : {s : Step} {later : List Step} {accesses : List Access} → is_access (rule_of s.romc) ≡ false →
      Pairs later accesses → Pairs (s ∷ later) accesses
  accessed : {s : Step} {later : List Step} {a : Access} {behind : List Access} → is_access (rule_of s.romc) ≡ true →
      s.romc ≡ a.romc →
      Pairs later behind → Pairs (s ∷ later) (a ∷ behind)

-- ---- along the steps

-- what is told of some steps: the fault is the first of their accesses, and where none is, all their clocks are heard
record Agrees (course : Course) (fault : Option Fault) (steps : List Step) : Type 0 where
  faults : fault_in course.fault ≡ fault
  clocks : fault ≡ None → clocks_heard course.steps ≡ clocks_along steps

idle_course : (i : Inputs) (c : Flow) (copies : List Copy) (s : Step) (later : List Step) (accesses : List Access) →
    is_access (rule_of s.romc) ≡ false →
    course_of i c copies (s ∷ later) accesses ≡ with_unaccessed i s (course_of i c copies later accesses)
idle_course i c copies s later [] e = refl
idle_course i c copies s later (a ∷ behind) e = rw e refl

access_course : (i : Inputs) (c : Flow) (copies : List Copy) (s : Step) (later : List Step) (a : Access)
    (behind : List Access) →
    is_access (rule_of s.romc) ≡ true →
    course_of i c copies (s ∷ later) (a ∷ behind) ≡ course_by i s (access_ruling c copies a)
    (course_of i c copies later behind)
access_course i c copies s later a behind e = rw e refl

step_agrees : (i : Inputs) (s : Step) (socket : Option ℕ) (rest : Course) (fault : Option Fault) (later : List Step) →
    Agrees rest fault later →
    Agrees (with_step (traced i s socket) rest) fault (s ∷ later)
step_agrees i s socket rest fault later is = record {
  faults = is.faults;
  clocks =
      λ none. sum_by-cons (λ t. step_clocks t.long) (traced i s socket) rest.steps
      ∙ ap (λ n. step_clocks s.long + n) (is.clocks none)
      ∙ sym (sum_by-cons (λ t. step_clocks t.long) s later);
}

ruling_agrees : (i : Inputs) (s : Step) (romc : ℕ) (v : Ruling) (rest : Course) (fault : Option Fault)
    (later : List Step) →
    s.romc ≡ romc →
    Agrees rest fault later → Agrees (course_by i s v rest) (or_later (fault_by romc v) fault) (s ∷ later)
ruling_agrees i s romc (Served socket) rest fault later code is = step_agrees i s socket rest fault later is
ruling_agrees i s romc (Conflict parties) rest fault later code is = record {
  faults = ap (λ n. Some (Fault.Conflict n parties)) code;
  clocks = λ none. cc;
}
ruling_agrees i s romc (Undriven at) rest fault later code is = record {
  faults = ap (λ n. Some (Fault.Undriven n at)) code;
  clocks = λ none. cc;
}
ruling_agrees i s romc (Astray socket at reference) rest fault later code is = record {
  faults = ap (λ n. Some (Fault.Astray n socket at reference)) code;
  clocks = λ none. cc;
}

agrees : (i : Inputs) (c : Flow) (copies : List Copy) (steps : List Step) (accesses : List Access) →
    Pairs steps accesses →
    Agrees (course_of i c copies steps accesses) (first_fault c copies accesses) steps
agrees i c copies [] [] ended = record { faults = refl; clocks = λ none. refl }
agrees i c copies [] (a ∷ behind) pairs = elim pairs [ ]
agrees i c copies (s ∷ later) accesses (idle e pairs) =
    subst (λ course. Agrees course (first_fault c copies accesses) (s ∷ later))
    (sym (idle_course i c copies s later accesses e))
    (step_agrees i s (unaccessed (rule_of s.romc) i) (course_of i c copies later accesses) (first_fault c copies accesses) later
    (agrees i c copies later accesses pairs))
agrees i c copies (s ∷ later) (a ∷ behind) (accessed e code pairs) =
    subst (λ course. Agrees course (first_fault c copies (a ∷ behind)) (s ∷ later))
    (sym (access_course i c copies s later a behind e))
    (ruling_agrees i s a.romc (access_ruling c copies a) (course_of i c copies later behind) (first_fault c copies behind) later code
    (agrees i c copies later behind pairs))

-- ---- the steps of an instruction

-- the last fetch, or the steps of an interrupt
fetch_pairs : (row : Row) (i : Inputs) → Pairs (ending_steps row i.chosen) (last_access row i ∷ [])
fetch_pairs row i = by i.chosen
  where
    by : (chosen : Option ℕ) → Pairs (ending_steps row chosen) (last_access row i ∷ [])
    by None = accessed refl refl ended
    by (Some socket) = idle refl (idle refl (idle refl (idle refl (accessed refl refl ended))))

branch_pairs : (taken : Bool) (row : Row) (i : Inputs) →
    Pairs ((if taken then long_step 0x01 Operand else short_step 0x03 Operand) ∷ ending_steps row i.chosen)
    (ahead (if taken then 0x01 else 0x03) 1 ∷ last_access row i ∷ [])
branch_pairs true row i = accessed refl refl (fetch_pairs row i)
branch_pairs false row i = accessed refl refl (fetch_pairs row i)

pairs_of : (row : Row) (i : Inputs) →
    Pairs (steps_with row i) (accesses_before_fetch row i ++ last_access row i ∷ [])
pairs_of Idle i = idle refl (fetch_pairs Idle i)
pairs_of StackToK i = accessed refl refl (accessed refl refl (fetch_pairs StackToK i))
pairs_of StackFromK i = idle refl (idle refl (fetch_pairs StackFromK i))
pairs_of CallK i = idle refl (idle refl (fetch_pairs CallK i))
pairs_of JumpQ i = idle refl (idle refl (fetch_pairs JumpQ i))
pairs_of DataToPair i = accessed refl refl (accessed refl refl (fetch_pairs DataToPair i))
pairs_of DataFromQ i = idle refl (idle refl (fetch_pairs DataFromQ i))
pairs_of DataFromH i = idle refl (idle refl (fetch_pairs DataFromH i))
pairs_of ReadData i = accessed refl refl (fetch_pairs ReadData i)
pairs_of StoreData i = accessed refl refl (fetch_pairs StoreData i)
pairs_of Return i = idle refl (fetch_pairs Return i)
pairs_of Immediate i = accessed refl refl (fetch_pairs Immediate i)
pairs_of PortIn i = accessed refl refl (accessed refl refl (fetch_pairs PortIn i))
pairs_of PortOut i = accessed refl refl (accessed refl refl (fetch_pairs PortOut i))
pairs_of Call i = accessed refl refl (idle refl (accessed refl refl (idle refl (fetch_pairs Call i))))
pairs_of Jump i = accessed refl refl (accessed refl refl (idle refl (fetch_pairs Jump i)))
pairs_of LoadData i =
    accessed refl refl (accessed refl refl (accessed refl refl (accessed refl refl (fetch_pairs LoadData i))))
pairs_of Exchange i = idle refl (fetch_pairs Exchange i)
pairs_of AddData i = idle refl (fetch_pairs AddData i)
pairs_of Branch i = idle refl (branch_pairs i.taken Branch i)
pairs_of BranchIsar i = branch_pairs i.taken BranchIsar i
pairs_of ShortIn i = idle refl (accessed refl refl (fetch_pairs ShortIn i))
pairs_of ShortOut i = idle refl (accessed refl refl (fetch_pairs ShortOut i))
pairs_of Plain i = fetch_pairs Plain i
pairs_of PlainLong i = fetch_pairs PlainLong i

-- an instruction by its opcode
instruction_agrees : (op : Op) (x : Position) →
    Agrees (instruction_course op x) (instruction_fault op x)
    (steps_with (row_of op) (gets_all_at op x))
instruction_agrees op x =
    let i = gets_all_at op x in
    subst
    (λ accesses. Agrees (instruction_course op x) (first_fault x.flat.state.flow x.copies accesses)
    (steps_with (row_of op) i))
    (accesses-with_opcode (row_of op) i.opcode (gets_at op x))
    (agrees i x.flat.state.flow x.copies (steps_with (row_of op) i) (accesses_of op i) (pairs_of (row_of op) i))

-- ---- a turn

fault_unless : (fault : Option Fault) (y : Position) → fault ≡ fault_of_turn (goes_unless fault y)
fault_unless None y = refl
fault_unless (Some fault) y = refl

-- the turn of a decoded opcode
abbrev turn_as : Position → Option Op → Turn
turn_as x op =
    decided (λ op. goes_unless (instruction_fault op x) (position_after op x)) x.flat.state.flow.p (opcode_at x) op

turn_faults : (x : Position) (op : Option Op) → fault_in (course_as x op).fault ≡ fault_of_turn (turn_as x op)
turn_faults x None = refl
turn_faults x (Some op) = (instruction_agrees op x).faults ∙ fault_unless (instruction_fault op x) (position_after op x)

goes_where : (fault : Option Fault) (x y : Position) → goes_unless fault x ≡ Goes y → (fault ≡ None) × (x ≡ y)
goes_where None x y goes = (refl, cc)
goes_where (Some fault) x y goes = cc

instruction_clocks : (op : Op) (x : Position) → instruction_fault op x ≡ None →
    (position_after op x).flat.state.phi ≡ x.flat.state.phi + clocks_heard (instruction_course op x).steps
instruction_clocks op x none =
    let i = gets_all_at op x in
    ap (λ n. x.flat.state.phi + n)
    (sym ((instruction_agrees op x).clocks none ∙ clocks_with op i.taken i.chosen))

turns_clocks : (x y : Position) (op : Option Op) → turn_as x op ≡ Goes y →
    y.flat.state.phi ≡ x.flat.state.phi + clocks_heard (course_as x op).steps
turns_clocks x y None goes = cc
turns_clocks x y (Some op) goes =
    let at = goes_where (instruction_fault op x) (position_after op x) y goes in
    ap (λ (z : Position). z.flat.state.phi) (sym at.1) ∙ instruction_clocks op x at.0

-- ---- reset

reset_agrees : (x : Position) → Agrees (reset_course x) (reset_fault x) reset_steps
reset_agrees x =
    agrees (reset_gets x.flat.memory) x.flat.state.flow x.copies reset_steps (reset_access ∷ [])
    (idle refl (idle refl (accessed refl refl ended)))

pub trace_law : TraceLaw
trace_law = record {
  turn_stops = λ x. turn_faults x (decoded (opcode_at x));
  reset_stops = λ x. (reset_agrees x).faults;
  turn_clocks = λ x y goes. turns_clocks x y (decoded (opcode_at x)) goes;
  reset_clocks = λ x none. ap (λ n. x.flat.state.phi + n) (sym ((reset_agrees x).clocks none));
}
