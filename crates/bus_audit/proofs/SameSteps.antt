-- An instruction at a position with other key bytes and other pulses: where the port that it reads has the same byte, and the same interrupt
-- is taken, all is the same. Where a step before the last fetch is not served, its steps are the same anyhow.
use Rattle.std.proofs.Common.{◌≡◌, ℕ, ◌+◌, Bool, true, false, List, [], ◌∷◌, Option, Some, None, refl, ◌∙◌, ap, sym}
use Rattle.std.specs.Prelude.{if◌then◌else◌}
use Rattle.std.specs.List.{AllByRecursion}
use Rattle.f8_spec.specs.BusArbitration.{Ruling, Served, Conflict, Undriven, Astray, rule_of}
use Rattle.f8_spec.specs.Instructions.{row_of, clocks_before_fetch}
use Rattle.f8_spec.specs.MicroSteps.{Step, Operand, PortNumber, PortByte, long_step, steps_before_fetch}
use Rattle.f8_spec.specs.Words.{places_on}
use Rattle.f8_spec.specs.declared.instructions.Op.{Op}
use Rattle.f8_spec.specs.declared.instructions.Row.{Row}
use Rattle.f8_spec.specs.declared.instructions.Row.TheVariants.{StackToK, DataToPair, ReadData, StoreData, Immediate}
use Rattle.f8_spec.specs.declared.instructions.Row.TheVariants.{PortIn, PortOut, Call, Jump, LoadData, Branch}
use Rattle.f8_spec.specs.declared.instructions.Row.TheVariants.{BranchIsar, ShortIn, ShortOut, Idle, StackFromK, CallK}
use Rattle.f8_spec.specs.declared.instructions.Row.TheVariants.{JumpQ, DataFromQ, DataFromH, Return, Exchange, AddData}
use Rattle.f8_spec.specs.declared.instructions.Row.TheVariants.{Plain, PlainLong}
use Rattle.console_spec.specs.AddressSpace.{byte_at}
use Rattle.console_spec.specs.BusAccesses.{Access, ahead, at_port, accesses_before_fetch, accesses_of}
use Rattle.console_spec.specs.BusTrace.{TracedStep, Course, traced, with_step, course_by, course_of, is_access, who_by, driver_in, taker_by}
use Rattle.console_spec.specs.BusTrace.{unaccessed, with_unaccessed, steps_with}
use Rattle.console_spec.specs.CounterCopies.{Copy, copies_after}
use Rattle.console_spec.specs.FlatMachine.{memory_after}
use Rattle.console_spec.specs.FlatStep.{chosen_at, with_chosen, clocks_by, with_acknowledged}
use Rattle.console_spec.specs.InterruptRequests.{Mark, History}
use Rattle.console_spec.specs.Processor.{Flow, Inputs, own_inputs, read_port, result_of, registers_after, counters_after, byte_of}
use Rattle.console_spec.specs.Processor.{history_of}
use Rattle.console_spec.specs.Processor.{write_of, with_write}
use Rattle.console_spec.specs.Run.{Position, seats_of, gets_at, gets_all_at, instruction_course, instruction_fault, position_after}
use Rattle.console_spec.specs.Services.{Fault, access_ruling}
use Rattle.bus_audit.specs.Determinacy.{with_free}
use Rattle.bus_audit.proofs.Courses.{course_before, course_behind, in_parts, cut_alone, fault_in, instruction_faults}

-- ---- what an instruction gets

abbrev pub with_port : ℕ → Inputs → Inputs
with_port byte i = record i { port_byte = byte }

abbrev pub own_at : Op → Position → Inputs
own_at op x = own_inputs op x.flat.memory (seats_of x.copies) x.flat.state

-- the byte of the port that it reads
abbrev pub port_at : Op → Position → ℕ
port_at op x = read_port op (byte_at x.flat.memory (places_on x.flat.state.flow.p 1)) (seats_of x.copies) x.flat.state

-- the chip that is chosen at its end, by a history and what it gets before that
abbrev pub chosen_with : Op → Position → History → Inputs → Option ℕ
chosen_with op y h i =
    chosen_at op (result_of op i y.flat.state.registers).status.icb (seats_of y.copies) y.chain h
    (y.flat.state.phi + clocks_before_fetch op i.taken)

abbrev gets_with : Op → Position → History → Inputs → Inputs
gets_with op y h i = with_chosen (chosen_with op y h i) (seats_of y.copies) y.flat.state.writes i

-- with these key bytes and pulses it gets the same
pub record IsWanted (op : Op) (y : Position) (keys : List ℕ) (pulses : List Mark) : Type 0 where
  pub port : port_at op (with_free keys pulses y) ≡ port_at op y
  pub chosen : chosen_with op y (history_of (with_free keys pulses y).flat.state) (own_at op y)
      ≡ chosen_with op y (history_of y.flat.state) (own_at op y)

own_with : (op : Op) (y : Position) (keys : List ℕ) (pulses : List Mark) →
    own_at op (with_free keys pulses y) ≡ with_port (port_at op (with_free keys pulses y)) (own_at op y)
unfolding own_inputs
own_with op y keys pulses = refl

own_self : (op : Op) (y : Position) → own_at op y ≡ with_port (port_at op y) (own_at op y)
unfolding own_inputs
own_self op y = refl

pub same_gets : (op : Op) (y : Position) (keys : List ℕ) (pulses : List Mark) → IsWanted op y keys pulses →
    gets_at op (with_free keys pulses y) ≡ gets_at op y
same_gets op y keys pulses wanted =
    let own : own_at op (with_free keys pulses y) ≡ own_at op y =
    own_with op y keys pulses ∙ ap (λ (byte : ℕ). with_port byte (own_at op y)) wanted.port ∙ sym (own_self op y) in
    ap (gets_with op y (history_of (with_free keys pulses y).flat.state)) own
    ∙ ap (λ (chosen : Option ℕ). with_chosen chosen (seats_of y.copies) y.flat.state.writes (own_at op y)) wanted.chosen

-- ---- what it does with that

abbrev course_with : Op → Position → Inputs → Course
course_with op y g =
    let i : Inputs = record g {
      opcode = byte_at (memory_after (row_of op) (seats_of y.copies) g y.flat.state.flow y.flat.memory)
          (counters_after (row_of op) g true y.flat.state.flow).p;
    } in
    course_of i y.flat.state.flow y.copies (steps_with (row_of op) i) (accesses_of op i)

same_course : (op : Op) (y : Position) (keys : List ℕ) (pulses : List Mark) → gets_at op (with_free keys pulses y) ≡ gets_at op y →
    instruction_course op (with_free keys pulses y) ≡ instruction_course op y
same_course op y keys pulses same = ap (course_with op y) same

abbrev after_with : Op → Position → Inputs → Position
after_with op y g =
    let s = y.flat.state in
    let phi = s.phi + clocks_by g.chosen op g.taken in
    record {
      flat = record {
        state = record {
          flow = counters_after (row_of op) g true s.flow;
          registers = registers_after op g s.registers;
          keys = s.keys;
          writes = with_write (write_of op g (seats_of y.copies) phi) s.writes;
          acknowledged = with_acknowledged g.chosen phi s.acknowledged;
          pulses = s.pulses;
          count = s.count + 1;
          phi = phi;
        };
        memory = memory_after (row_of op) (seats_of y.copies) g s.flow y.flat.memory;
      };
      copies = copies_after (row_of op) g y.copies;
      chain = y.chain;
    }

-- and the position behind it differs in these key bytes and pulses alone
pub same_after : (op : Op) (y : Position) (keys : List ℕ) (pulses : List Mark) → gets_at op (with_free keys pulses y) ≡ gets_at op y →
    position_after op (with_free keys pulses y) ≡ with_free keys pulses (position_after op y)
same_after op y keys pulses same = ap (λ (g : Inputs). with_free keys pulses (after_with op y g)) same

-- ---- steps that don't hang on the port, on the interrupt and on the next opcode

-- what two inputs differ in
abbrev changed : Inputs → Inputs → Inputs
changed i k = record i {
  chosen = k.chosen;
  opcode = k.opcode;
  port_byte = k.port_byte;
  vector_high = k.vector_high;
  vector_low = k.vector_low;
}

all_changed : (op : Op) (y : Position) (keys : List ℕ) (pulses : List Mark) →
    gets_all_at op (with_free keys pulses y) ≡ changed (gets_all_at op y) (gets_all_at op (with_free keys pulses y))
unfolding own_inputs
all_changed op y keys pulses = refl

abbrev SameStep : Inputs → Inputs → Step → Type 0
SameStep i j s = (byte_of j s.source ≡ byte_of i s.source) × (unaccessed (rule_of s.romc) j ≡ unaccessed (rule_of s.romc) i)

abbrev step_told : Step → ℕ → Option ℕ → TracedStep
step_told s byte socket = record {
  romc = s.romc;
  long = s.long;
  byte = byte;
  who = who_by (driver_in s) socket;
  taker = taker_by (rule_of s.romc) socket;
}

same_unaccessed : (i j : Inputs) (s : Step) (first second : Course) → SameStep i j s → second ≡ first →
    with_unaccessed j s second ≡ with_unaccessed i s first
same_unaccessed i j s first second same rest =
    ap (λ (byte : ℕ). with_step (step_told s byte (unaccessed (rule_of s.romc) j)) second) same.0
    ∙ ap (λ (socket : Option ℕ). with_step (step_told s (byte_of i s.source) socket) second) same.1
    ∙ ap (with_step (traced i s (unaccessed (rule_of s.romc) i))) rest

same_ruled : (i j : Inputs) (s : Step) (v : Ruling) (first second : Course) → SameStep i j s → second ≡ first →
    course_by j s v second ≡ course_by i s v first
same_ruled i j s (Served socket) first second same rest =
    ap (λ (byte : ℕ). with_step (step_told s byte socket) second) same.0 ∙ ap (with_step (traced i s socket)) rest
same_ruled i j s (Conflict parties) first second same rest = refl
same_ruled i j s (Undriven at) first second same rest = refl
same_ruled i j s (Astray socket at reference) first second same rest = refl

either_way : (b : Bool) (x x' y y' : Course) → x ≡ x' → y ≡ y' → (if b then x else y) ≡ (if b then x' else y')
either_way true x x' y y' e f = e
either_way false x x' y y' e f = f

same_along : (i j : Inputs) (c : Flow) (copies : List Copy) (steps : List Step) (accesses : List Access) →
    AllByRecursion (SameStep i j) steps → course_of j c copies steps accesses ≡ course_of i c copies steps accesses
same_along i j c copies [] accesses same = refl
same_along i j c copies (s ∷ later) [] same =
    same_unaccessed i j s (course_of i c copies later []) (course_of j c copies later []) same.0
    (same_along i j c copies later [] same.1)
same_along i j c copies (s ∷ later) (a ∷ accesses) same =
    either_way (is_access (rule_of s.romc))
    (course_by j s (access_ruling c copies a) (course_of j c copies later accesses))
    (course_by i s (access_ruling c copies a) (course_of i c copies later accesses))
    (with_unaccessed j s (course_of j c copies later (a ∷ accesses)))
    (with_unaccessed i s (course_of i c copies later (a ∷ accesses)))
    (same_ruled i j s (access_ruling c copies a) (course_of i c copies later accesses) (course_of j c copies later accesses) same.0
    (same_along i j c copies later accesses same.1))
    (same_unaccessed i j s (course_of i c copies later (a ∷ accesses)) (course_of j c copies later (a ∷ accesses)) same.0
    (same_along i j c copies later (a ∷ accesses) same.1))

abbrev pub nothing_told : Course
nothing_told = record { steps = []; fault = None }

abbrev pub port_in_course : Inputs → Ruling → Ruling → Course
port_in_course i v w = course_by i (long_step 0x03 Operand) v (course_by i (long_step 0x1B PortByte) w nothing_told)

abbrev pub short_in_course : Inputs → Ruling → Course
short_in_course i w = with_unaccessed i (long_step 0x1C PortNumber) (course_by i (long_step 0x1B PortByte) w nothing_told)

port_in_cut : (i k : Inputs) (v w : Ruling) (x : Fault × Bool) → (port_in_course i v w).fault ≡ Some x →
    port_in_course (changed i k) v w ≡ port_in_course i v w
port_in_cut i k (Served a) (Served b) x cut = absurd (cc)
port_in_cut i k (Served a) (Conflict parties) x cut = refl
port_in_cut i k (Served a) (Undriven at) x cut = refl
port_in_cut i k (Served a) (Astray socket at reference) x cut = refl
port_in_cut i k (Conflict parties) w x cut = refl
port_in_cut i k (Undriven at) w x cut = refl
port_in_cut i k (Astray socket at reference) w x cut = refl

short_in_cut : (i k : Inputs) (w : Ruling) (x : Fault × Bool) → (short_in_course i w).fault ≡ Some x →
    short_in_course (changed i k) w ≡ short_in_course i w
short_in_cut i k (Served b) x cut = absurd (cc)
short_in_cut i k (Conflict parties) x cut = refl
short_in_cut i k (Undriven at) x cut = refl
short_in_cut i k (Astray socket at reference) x cut = refl

branch_same : (taken : Bool) (i k : Inputs) → AllByRecursion (SameStep i (changed i k)) (steps_before_fetch Branch taken)
branch_same true i k = ((refl, refl), ((refl, refl), tt))
branch_same false i k = ((refl, refl), ((refl, refl), tt))

branch_isar_same : (taken : Bool) (i k : Inputs) → AllByRecursion (SameStep i (changed i k)) (steps_before_fetch BranchIsar taken)
branch_isar_same true i k = ((refl, refl), tt)
branch_isar_same false i k = ((refl, refl), tt)

-- the steps of a row before its last fetch, by its steps and accesses
abbrev same_row : (row : Row) (i k : Inputs) (c : Flow) (copies : List Copy) → Type 0
same_row row i k c copies = course_before row (changed i k) c copies ≡ course_before row i c copies

-- where one of them is not served
cut_same : (row : Row) (i k : Inputs) (c : Flow) (copies : List Copy) (x : Fault × Bool) →
    (course_before row i c copies).fault ≡ Some x → same_row row i k c copies
cut_same Plain i k c copies x cut = refl
cut_same PlainLong i k c copies x cut = refl
cut_same Idle i k c copies x cut = same_along i (changed i k) c copies (steps_before_fetch Idle i.taken) [] ((refl, refl), tt)
cut_same StackToK i k c copies x cut =
    same_along i (changed i k) c copies (steps_before_fetch StackToK i.taken) (accesses_before_fetch StackToK i) ((refl, refl), ((refl, refl), tt))
cut_same StackFromK i k c copies x cut =
    same_along i (changed i k) c copies (steps_before_fetch StackFromK i.taken) [] ((refl, refl), ((refl, refl), tt))
cut_same CallK i k c copies x cut =
    same_along i (changed i k) c copies (steps_before_fetch CallK i.taken) [] ((refl, refl), ((refl, refl), tt))
cut_same JumpQ i k c copies x cut =
    same_along i (changed i k) c copies (steps_before_fetch JumpQ i.taken) [] ((refl, refl), ((refl, refl), tt))
cut_same DataToPair i k c copies x cut =
    same_along i (changed i k) c copies (steps_before_fetch DataToPair i.taken) (accesses_before_fetch DataToPair i)
    ((refl, refl), ((refl, refl), tt))
cut_same DataFromQ i k c copies x cut =
    same_along i (changed i k) c copies (steps_before_fetch DataFromQ i.taken) [] ((refl, refl), ((refl, refl), tt))
cut_same DataFromH i k c copies x cut =
    same_along i (changed i k) c copies (steps_before_fetch DataFromH i.taken) [] ((refl, refl), ((refl, refl), tt))
cut_same ReadData i k c copies x cut =
    same_along i (changed i k) c copies (steps_before_fetch ReadData i.taken) (accesses_before_fetch ReadData i) ((refl, refl), tt)
cut_same StoreData i k c copies x cut =
    same_along i (changed i k) c copies (steps_before_fetch StoreData i.taken) (accesses_before_fetch StoreData i) ((refl, refl), tt)
cut_same Return i k c copies x cut = same_along i (changed i k) c copies (steps_before_fetch Return i.taken) [] ((refl, refl), tt)
cut_same Immediate i k c copies x cut =
    same_along i (changed i k) c copies (steps_before_fetch Immediate i.taken) (accesses_before_fetch Immediate i) ((refl, refl), tt)
cut_same PortIn i k c copies x cut =
    port_in_cut i k (access_ruling c copies (ahead 0x03 1)) (access_ruling c copies (at_port 0x1B i.operand)) x cut
cut_same PortOut i k c copies x cut =
    same_along i (changed i k) c copies (steps_before_fetch PortOut i.taken) (accesses_before_fetch PortOut i) ((refl, refl), ((refl, refl), tt))
cut_same Call i k c copies x cut =
    same_along i (changed i k) c copies (steps_before_fetch Call i.taken) (accesses_before_fetch Call i)
    ((refl, refl), ((refl, refl), ((refl, refl), ((refl, refl), tt))))
cut_same Jump i k c copies x cut =
    same_along i (changed i k) c copies (steps_before_fetch Jump i.taken) (accesses_before_fetch Jump i)
    ((refl, refl), ((refl, refl), ((refl, refl), tt)))
cut_same LoadData i k c copies x cut =
    same_along i (changed i k) c copies (steps_before_fetch LoadData i.taken) (accesses_before_fetch LoadData i)
    ((refl, refl), ((refl, refl), ((refl, refl), ((refl, refl), tt))))
cut_same Exchange i k c copies x cut = same_along i (changed i k) c copies (steps_before_fetch Exchange i.taken) [] ((refl, refl), tt)
cut_same AddData i k c copies x cut = same_along i (changed i k) c copies (steps_before_fetch AddData i.taken) [] ((refl, refl), tt)
cut_same Branch i k c copies x cut =
    same_along i (changed i k) c copies (steps_before_fetch Branch i.taken) (accesses_before_fetch Branch i) (branch_same i.taken i k)
cut_same BranchIsar i k c copies x cut =
    same_along i (changed i k) c copies (steps_before_fetch BranchIsar i.taken) (accesses_before_fetch BranchIsar i)
    (branch_isar_same i.taken i k)
cut_same ShortIn i k c copies x cut = short_in_cut i k (access_ruling c copies (at_port 0x1B i.port)) x cut
cut_same ShortOut i k c copies x cut =
    same_along i (changed i k) c copies (steps_before_fetch ShortOut i.taken) (accesses_before_fetch ShortOut i) ((refl, refl), ((refl, refl), tt))

-- the steps of an instruction before its last fetch
abbrev pub before_at : Op → Position → Course
before_at op x = course_before (row_of op) (gets_all_at op x) x.flat.state.flow x.copies

abbrev pub behind_at : Op → Position → Course
behind_at op x = course_behind (row_of op) (gets_all_at op x) x.flat.state.flow x.copies

cut_course : (op : Op) (y : Position) (keys : List ℕ) (pulses : List Mark) (x : Fault × Bool) → (before_at op y).fault ≡ Some x →
    instruction_course op (with_free keys pulses y) ≡ instruction_course op y
cut_course op y keys pulses x cut =
    let z = with_free keys pulses y in
    let same : before_at op z ≡ before_at op y =
    ap (λ (i : Inputs). course_before (row_of op) i y.flat.state.flow y.copies) (all_changed op y keys pulses)
    ∙ cut_same (row_of op) (gets_all_at op y) (gets_all_at op z) y.flat.state.flow y.copies x cut in
    in_parts op z
    ∙ cut_alone (before_at op z) (behind_at op z) x (ap (λ (course : Course). course.fault) same ∙ cut)
    ∙ same
    ∙ sym (in_parts op y ∙ cut_alone (before_at op y) (behind_at op y) x cut)

-- ---- the steps of an instruction

pub same_steps : (op : Op) (y : Position) (keys : List ℕ) (pulses : List Mark) →
    ((before_at op y).fault ≡ None → IsWanted op y keys pulses) →
    instruction_course op (with_free keys pulses y) ≡ instruction_course op y
same_steps op y keys pulses wanted = by (before_at op y).fault refl
  where
    by : (fault : Option (Fault × Bool)) → (before_at op y).fault ≡ fault →
        instruction_course op (with_free keys pulses y) ≡ instruction_course op y
    by None served = same_course op y keys pulses (same_gets op y keys pulses (wanted served))
    by (Some x) cut = cut_course op y keys pulses x cut

-- and whether it is done
pub same_fault : (op : Op) (y z : Position) → instruction_course op z ≡ instruction_course op y →
    instruction_fault op z ≡ instruction_fault op y
same_fault op y z same =
    sym (instruction_faults op z) ∙ ap (λ (course : Course). fault_in course.fault) same ∙ instruction_faults op y
