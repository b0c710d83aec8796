-- The steps of an instruction in two parts: those before the last fetch, and those from it on. And why an instruction is not done is told by
-- its steps.
use Rattle.std.proofs.Common.{◌≡◌, ℕ, suc, Bool, true, false, List, [], ◌∷◌, ◌++◌, length, Option, Some, None, refl, ◌∙◌, ap, sym, subst}
use Rattle.std.specs.Prelude.{if◌then◌else◌}
use Rattle.f8_spec.specs.Instructions.{row_of}
use Rattle.f8_spec.specs.MicroSteps.{Step, Operand, long_step, short_step, reset_steps, steps_before_fetch}
use Rattle.f8_spec.specs.BusArbitration.{Ruling, Served, Conflict, Undriven, Astray, rule_of}
use Rattle.f8_spec.specs.declared.instructions.Op.{Op}
use Rattle.f8_spec.specs.declared.instructions.Row.{Row}
use Rattle.f8_spec.specs.declared.instructions.Row.TheVariants.{StackToK, DataToPair, ReadData, StoreData, Immediate}
use Rattle.f8_spec.specs.declared.instructions.Row.TheVariants.{PortIn, PortOut, Call, Jump, LoadData, Branch}
use Rattle.f8_spec.specs.declared.instructions.Row.TheVariants.{BranchIsar, ShortIn, ShortOut, Idle, StackFromK, CallK}
use Rattle.f8_spec.specs.declared.instructions.Row.TheVariants.{JumpQ, DataFromQ, DataFromH, Return, Exchange, AddData}
use Rattle.f8_spec.specs.declared.instructions.Row.TheVariants.{Plain, PlainLong}
use Rattle.console_spec.specs.Processor.{Flow, Inputs}
use Rattle.console_spec.specs.CounterCopies.{Copy}
use Rattle.console_spec.specs.BusAccesses.{Access, ahead, accesses_before_fetch, last_access}
use Rattle.console_spec.specs.BusTrace.{TracedStep, Course, traced, with_step, course_by, course_of, is_access}
use Rattle.console_spec.specs.BusTrace.{unaccessed, with_unaccessed, ending_steps, steps_with}
use Rattle.console_spec.specs.Run.{Position, gets_at, gets_all_at, instruction_course, instruction_fault}
use Rattle.console_spec.specs.Run.{reset_access, reset_gets, reset_course, reset_fault}
use Rattle.console_spec.specs.Services.{Fault, access_ruling, fault_by, first_fault, or_later}
use Rattle.console_spec.proofs.InputLaws.{accesses-with_opcode}

-- steps and accesses in one order: a step that chips serve has the next access with its code, and any other has none
pub data Pairs : List Step → List Access → Type 0 where
  ended : Pairs [] []
  idle : {s : Step} {later : List Step} {accesses : List Access} → is_access (rule_of s.romc) ≡ false →
      Pairs later accesses → Pairs (s ∷ later) accesses
  accessed : {s : Step} {later : List Step} {a : Access} {behind : List Access} → is_access (rule_of s.romc) ≡ true →
      s.romc ≡ a.romc →
      Pairs later behind → Pairs (s ∷ later) (a ∷ behind)

pub idle_course : (i : Inputs) (c : Flow) (copies : List Copy) (s : Step) (later : List Step) (accesses : List Access) →
    is_access (rule_of s.romc) ≡ false →
    course_of i c copies (s ∷ later) accesses ≡ with_unaccessed i s (course_of i c copies later accesses)
idle_course i c copies s later [] e = refl
idle_course i c copies s later (a ∷ behind) e = rw e refl

pub access_course : (i : Inputs) (c : Flow) (copies : List Copy) (s : Step) (later : List Step) (a : Access) (behind : List Access) →
    is_access (rule_of s.romc) ≡ true →
    course_of i c copies (s ∷ later) (a ∷ behind) ≡ course_by i s (access_ruling c copies a) (course_of i c copies later behind)
access_course i c copies s later a behind e = rw e refl

-- ---- one course behind another

abbrev pub joined_by : Option (Fault × Bool) → List TracedStep → Course → Course
joined_by None steps later = record { steps = steps ++ later.steps; fault = later.fault }
joined_by (Some x) steps later = record { steps = steps; fault = Some x }

-- where the first is served
abbrev pub joined : Course → Course → Course
joined first later = joined_by first.fault first.steps later

step_joined : (step : TracedStep) (fault : Option (Fault × Bool)) (steps : List TracedStep) (later : Course) →
    with_step step (joined_by fault steps later) ≡ joined_by fault (step ∷ steps) later
step_joined step None steps later = refl
step_joined step (Some x) steps later = refl

ruling_joined : (i : Inputs) (s : Step) (v : Ruling) (first later : Course) →
    course_by i s v (joined first later) ≡ joined (course_by i s v first) later
ruling_joined i s (Served socket) first later = step_joined (traced i s socket) first.fault first.steps later
ruling_joined i s (Conflict parties) first later = refl
ruling_joined i s (Undriven at) first later = refl
ruling_joined i s (Astray socket at reference) first later = refl

pub course-append : (i : Inputs) (c : Flow) (copies : List Copy) (steps : List Step) (accesses : List Access) → Pairs steps accesses →
    (more : List Step) (behind : List Access) →
    course_of i c copies (steps ++ more) (accesses ++ behind)
    ≡ joined (course_of i c copies steps accesses) (course_of i c copies more behind)
course-append i c copies [] [] ended more behind = refl
course-append i c copies [] (a ∷ accesses) pairs more behind = elim pairs [ ]
course-append i c copies (s ∷ later) accesses (idle e pairs) more behind =
    let first = course_of i c copies later accesses in
    let step = traced i s (unaccessed (rule_of s.romc) i) in
    idle_course i c copies s (later ++ more) (accesses ++ behind) e
    ∙ ap (with_step step) (course-append i c copies later accesses pairs more behind)
    ∙ step_joined step first.fault first.steps (course_of i c copies more behind)
    ∙ sym (ap (λ (course : Course). joined course (course_of i c copies more behind)) (idle_course i c copies s later accesses e))
course-append i c copies (s ∷ later) (a ∷ accesses) (accessed e code pairs) more behind =
    let first = course_of i c copies later accesses in
    access_course i c copies s (later ++ more) a (accesses ++ behind) e
    ∙ ap (course_by i s (access_ruling c copies a)) (course-append i c copies later accesses pairs more behind)
    ∙ ruling_joined i s (access_ruling c copies a) first (course_of i c copies more behind)
    ∙ sym (ap (λ (course : Course). joined course (course_of i c copies more behind)) (access_course i c copies s later a accesses e))

-- ---- faults

-- why the step behind the served ones is not served
abbrev pub fault_in : Option (Fault × Bool) → Option Fault
fault_in None = None
fault_in (Some x) = Some x.0

ruling_faults : (i : Inputs) (s : Step) (romc : ℕ) (v : Ruling) (rest : Course) (fault : Option Fault) → s.romc ≡ romc →
    fault_in rest.fault ≡ fault → fault_in (course_by i s v rest).fault ≡ or_later (fault_by romc v) fault
ruling_faults i s romc (Served socket) rest fault code is = is
ruling_faults i s romc (Conflict parties) rest fault code is = ap (λ n. Some (Fault.Conflict n parties)) code
ruling_faults i s romc (Undriven at) rest fault code is = ap (λ n. Some (Fault.Undriven n at)) code
ruling_faults i s romc (Astray socket at reference) rest fault code is = ap (λ n. Some (Fault.Astray n socket at reference)) code

pub course_faults : (i : Inputs) (c : Flow) (copies : List Copy) (steps : List Step) (accesses : List Access) → Pairs steps accesses →
    fault_in (course_of i c copies steps accesses).fault ≡ first_fault c copies accesses
course_faults i c copies [] [] ended = refl
course_faults i c copies [] (a ∷ behind) pairs = elim pairs [ ]
course_faults i c copies (s ∷ later) accesses (idle e pairs) =
    ap (λ (course : Course). fault_in course.fault) (idle_course i c copies s later accesses e)
    ∙ course_faults i c copies later accesses pairs
course_faults i c copies (s ∷ later) (a ∷ behind) (accessed e code pairs) =
    ap (λ (course : Course). fault_in course.fault) (access_course i c copies s later a behind e)
    ∙ ruling_faults i s a.romc (access_ruling c copies a) (course_of i c copies later behind) (first_fault c copies behind) code
    (course_faults i c copies later behind pairs)

-- where there is none, all steps are told
abbrev pub TellsAll : Course → List Step → Type 0
TellsAll course steps = course.fault ≡ None → length course.steps ≡ length steps

ruling_tells : (i : Inputs) (s : Step) (v : Ruling) (rest : Course) (later : List Step) → TellsAll rest later →
    TellsAll (course_by i s v rest) (s ∷ later)
ruling_tells i s (Served socket) rest later all none = ap (λ (n : ℕ). suc n) (all none)
ruling_tells i s (Conflict parties) rest later all none = absurd (cc)
ruling_tells i s (Undriven at) rest later all none = absurd (cc)
ruling_tells i s (Astray socket at reference) rest later all none = absurd (cc)

pub course_tells : (i : Inputs) (c : Flow) (copies : List Copy) (steps : List Step) (accesses : List Access) → Pairs steps accesses →
    TellsAll (course_of i c copies steps accesses) steps
course_tells i c copies [] [] ended = λ none. refl
course_tells i c copies [] (a ∷ behind) pairs = elim pairs [ ]
course_tells i c copies (s ∷ later) accesses (idle e pairs) =
    subst (λ (course : Course). TellsAll course (s ∷ later)) (sym (idle_course i c copies s later accesses e))
    (λ none. ap (λ (n : ℕ). suc n) (course_tells i c copies later accesses pairs none))
course_tells i c copies (s ∷ later) (a ∷ behind) (accessed e code pairs) =
    subst (λ (course : Course). TellsAll course (s ∷ later)) (sym (access_course i c copies s later a behind e))
    (ruling_tells i s (access_ruling c copies a) (course_of i c copies later behind) later (course_tells i c copies later behind pairs))

-- ---- the steps of an instruction

branch_pairs : (taken : Bool) →
    Pairs ((if taken then long_step 0x01 Operand else short_step 0x03 Operand) ∷ []) (ahead (if taken then 0x01 else 0x03) 1 ∷ [])
branch_pairs true = accessed refl refl ended
branch_pairs false = accessed refl refl ended

pub before_pairs : (row : Row) (i : Inputs) → Pairs (steps_before_fetch row i.taken) (accesses_before_fetch row i)
before_pairs Idle i = idle refl ended
before_pairs StackToK i = accessed refl refl (accessed refl refl ended)
before_pairs StackFromK i = idle refl (idle refl ended)
before_pairs CallK i = idle refl (idle refl ended)
before_pairs JumpQ i = idle refl (idle refl ended)
before_pairs DataToPair i = accessed refl refl (accessed refl refl ended)
before_pairs DataFromQ i = idle refl (idle refl ended)
before_pairs DataFromH i = idle refl (idle refl ended)
before_pairs ReadData i = accessed refl refl ended
before_pairs StoreData i = accessed refl refl ended
before_pairs Return i = idle refl ended
before_pairs Immediate i = accessed refl refl ended
before_pairs PortIn i = accessed refl refl (accessed refl refl ended)
before_pairs PortOut i = accessed refl refl (accessed refl refl ended)
before_pairs Call i = accessed refl refl (idle refl (accessed refl refl (idle refl ended)))
before_pairs Jump i = accessed refl refl (accessed refl refl (idle refl ended))
before_pairs LoadData i = accessed refl refl (accessed refl refl (accessed refl refl (accessed refl refl ended)))
before_pairs Exchange i = idle refl ended
before_pairs AddData i = idle refl ended
before_pairs Branch i = idle refl (branch_pairs i.taken)
before_pairs BranchIsar i = branch_pairs i.taken
before_pairs ShortIn i = idle refl (accessed refl refl ended)
before_pairs ShortOut i = idle refl (accessed refl refl ended)
before_pairs Plain i = ended
before_pairs PlainLong i = ended

-- the last fetch, or the steps of an interrupt
ending_pairs : (row : Row) (chosen : Option ℕ) (i : Inputs) → Pairs (ending_steps row chosen) (last_access row i ∷ [])
ending_pairs row None i = accessed refl refl ended
ending_pairs row (Some socket) i = idle refl (idle refl (idle refl (idle refl (accessed refl refl ended))))

pairs-append : (steps : List Step) (accesses : List Access) → Pairs steps accesses → (more : List Step) (behind : List Access) →
    Pairs more behind → Pairs (steps ++ more) (accesses ++ behind)
pairs-append [] [] ended more behind q = q
pairs-append [] (a ∷ accesses) pairs more behind q = elim pairs [ ]
pairs-append (s ∷ later) accesses (idle e pairs) more behind q = idle e (pairs-append later accesses pairs more behind q)
pairs-append (s ∷ later) (a ∷ accesses) (accessed e code pairs) more behind q =
    accessed e code (pairs-append later accesses pairs more behind q)

-- the steps before the last fetch, and those from it on
abbrev pub course_before : Row → Inputs → Flow → List Copy → Course
course_before row i c copies = course_of i c copies (steps_before_fetch row i.taken) (accesses_before_fetch row i)

abbrev pub course_behind : Row → Inputs → Flow → List Copy → Course
course_behind row i c copies = course_of i c copies (ending_steps row i.chosen) (last_access row i ∷ [])

pub in_parts : (op : Op) (x : Position) →
    instruction_course op x
    ≡ joined (course_before (row_of op) (gets_all_at op x) x.flat.state.flow x.copies)
    (course_behind (row_of op) (gets_all_at op x) x.flat.state.flow x.copies)
in_parts op x =
    let i = gets_all_at op x in
    course-append i x.flat.state.flow x.copies (steps_before_fetch (row_of op) i.taken) (accesses_before_fetch (row_of op) i)
    (before_pairs (row_of op) i) (ending_steps (row_of op) i.chosen) (last_access (row_of op) i ∷ [])

-- an instruction is not done where a step of it is told as not served, and by the same fault
pub instruction_faults : (op : Op) (x : Position) → fault_in (instruction_course op x).fault ≡ instruction_fault op x
instruction_faults op x =
    let i = gets_all_at op x in
    course_faults i x.flat.state.flow x.copies (steps_with (row_of op) i)
    (accesses_before_fetch (row_of op) i ++ last_access (row_of op) i ∷ [])
    (pairs-append (steps_before_fetch (row_of op) i.taken) (accesses_before_fetch (row_of op) i) (before_pairs (row_of op) i)
    (ending_steps (row_of op) i.chosen) (last_access (row_of op) i ∷ []) (ending_pairs (row_of op) i.chosen i))
    ∙ ap (first_fault x.flat.state.flow x.copies) (accesses-with_opcode (row_of op) i.opcode (gets_at op x))

-- ---- reset

reset_pairs : Pairs reset_steps (reset_access ∷ [])
reset_pairs = idle refl (idle refl (accessed refl refl ended))

pub reset_faults : (x : Position) → fault_in (reset_course x).fault ≡ reset_fault x
reset_faults x = course_faults (reset_gets x.flat.memory) x.flat.state.flow x.copies reset_steps (reset_access ∷ []) reset_pairs

pub reset_tells : (x : Position) → (reset_course x).fault ≡ None → length (reset_course x).steps ≡ length reset_steps
reset_tells x none =
    course_tells (reset_gets x.flat.memory) x.flat.state.flow x.copies reset_steps (reset_access ∷ []) reset_pairs none

-- ---- without a fault

pub none_in : (fault : Option (Fault × Bool)) → fault_in fault ≡ None → fault ≡ None
none_in None e = refl
none_in (Some x) e = absurd (cc)

joined_served : (fault : Option (Fault × Bool)) (steps : List TracedStep) (later : Course) → (joined_by fault steps later).fault ≡ None →
    fault ≡ None
joined_served None steps later e = refl
joined_served (Some x) steps later e = absurd (cc)

-- an instruction that is done is served before its last fetch too
pub served_before : (op : Op) (x : Position) → instruction_fault op x ≡ None →
    (course_before (row_of op) (gets_all_at op x) x.flat.state.flow x.copies).fault ≡ None
served_before op x served =
    let i = gets_all_at op x in
    let first = course_before (row_of op) i x.flat.state.flow x.copies in
    let later = course_behind (row_of op) i x.flat.state.flow x.copies in
    joined_served first.fault first.steps later
    (none_in (joined first later).fault
    (ap (λ (course : Course). fault_in course.fault) (sym (in_parts op x)) ∙ instruction_faults op x ∙ served))

joined_cut : (fault : Option (Fault × Bool)) (steps : List TracedStep) (later : Course) (x : Fault × Bool) → fault ≡ Some x →
    joined_by fault steps later ≡ record { steps = steps; fault = fault }
joined_cut None steps later x e = absurd (cc)
joined_cut (Some y) steps later x e = refl

-- what comes behind a step that is not served doesn't count
pub cut_alone : (first later : Course) (x : Fault × Bool) → first.fault ≡ Some x → joined first later ≡ first
cut_alone first later x e = joined_cut first.fault first.steps later x e
