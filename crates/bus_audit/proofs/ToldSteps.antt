-- What the told steps of an instruction say: the byte of the port that it reads, and the chip whose interrupt is taken at its end.
use Rattle.std.proofs.Common.{◌≡◌, ℕ, ◌<◌, Bool, false, List, [], ◌∷◌, ◌++◌, length, drop, map, Option, Some, None, refl, ◌∙◌, ap, sym}
use Rattle.std.proofs.Common.{append_assoc, drop_at}
use Rattle.std.proofs.lemmas.List.{length-map, map-append}
use Rattle.std.specs.Prelude.{nat_lt, if◌then◌else◌}
use Rattle.f8_spec.specs.BusArbitration.{Ruling, Served, Conflict, Undriven, Astray}
use Rattle.f8_spec.specs.Instructions.{row_of}
use Rattle.f8_spec.specs.MicroSteps.{steps_before_fetch, last_fetch}
use Rattle.f8_spec.specs.Words.{places_on}
use Rattle.f8_spec.specs.declared.instructions.Op.{Op}
use Rattle.f8_spec.specs.declared.instructions.Op.TheVariants.{In, Ins}
use Rattle.f8_spec.specs.declared.instructions.Row.{Row}
use Rattle.f8_spec.specs.declared.instructions.Row.TheVariants.{Idle, PortIn, ShortIn}
use Rattle.console_spec.specs.AddressSpace.{byte_at}
use Rattle.console_spec.specs.BusAccesses.{Access, ahead, at_port, accesses_before_fetch, last_access}
use Rattle.console_spec.specs.BusTrace.{TracedStep, Course, course_by, course_of, ending_steps, socket_or_nobody}
use Rattle.console_spec.specs.CounterCopies.{Copy}
use Rattle.console_spec.specs.Processor.{Flow, Inputs, own_inputs, is_taken}
use Rattle.console_spec.specs.Run.{Position, gets_all_at, instruction_course}
use Rattle.console_spec.specs.Services.{Fault, access_ruling}
use Rattle.bus_audit.specs.PlainSteps.{HasByte, HaveBytes, plain, plain_course, plain_fault}
use Rattle.bus_audit.specs.declared.step.TraceStep.{TraceStep}
use Rattle.bus_audit.specs.declared.step.TraceWhat.{TraceWhat}
use Rattle.bus_audit.specs.declared.step.TraceWhat.TheVariants.{Byte, Fault as Faulted}
use Rattle.bus_audit.specs.Choices.{driving_socket, interrupting_socket, from_last_fetch, told_byte, first_byte, second_byte}
use Rattle.bus_audit.specs.ReadInputs.{second_code}
use Rattle.bus_audit.proofs.Courses.{joined_by, course_before, course_tells, before_pairs, in_parts}
use Rattle.bus_audit.proofs.SameSteps.{before_at, behind_at, port_at, port_in_course, short_in_course}

-- ---- the told steps in two parts

plain_joined : (fault : Option (Fault × Bool)) (steps : List TracedStep) (later : Course) → fault ≡ None →
    plain_course (joined_by fault steps later) ≡ map plain steps ++ plain_course later
plain_joined None steps later none =
    ap (λ (told : List TraceStep). told ++ plain_fault later.fault) (map-append plain steps later.steps)
    ∙ append_assoc (map plain steps) (map plain later.steps) (plain_fault later.fault)
plain_joined (Some x) steps later none = absurd (cc)

-- a trace that begins with the steps of an instruction, which are served before the last fetch
pub told_in_parts : (op : Op) (y : Position) (trace more : List TraceStep) → (before_at op y).fault ≡ None →
    trace ≡ plain_course (instruction_course op y) ++ more →
    trace ≡ map plain (before_at op y).steps ++ (plain_course (behind_at op y) ++ more)
told_in_parts op y trace more served is =
    is
    ∙ ap (λ (told : List TraceStep). told ++ more)
    (ap (λ (course : Course). plain_course course) (in_parts op y) ∙ plain_joined (before_at op y).fault (before_at op y).steps (behind_at op y) served)
    ∙ append_assoc (map plain (before_at op y).steps) (plain_course (behind_at op y)) more

taken_is : (op : Op) (y : Position) → (gets_all_at op y).taken ≡ is_taken op y.flat.state.registers
unfolding own_inputs
taken_is op y = refl

pub told_from_fetch : (op : Op) (y : Position) (trace more : List TraceStep) → (before_at op y).fault ≡ None →
    trace ≡ plain_course (instruction_course op y) ++ more → from_last_fetch op y trace ≡ plain_course (behind_at op y) ++ more
told_from_fetch op y trace more served is =
    let i = gets_all_at op y in
    let taken = is_taken op y.flat.state.registers in
    let as_many : length (map plain (before_at op y).steps) ≡ length (steps_before_fetch (row_of op) taken) =
    length-map (before_at op y).steps plain
    ∙ course_tells i y.flat.state.flow y.copies (steps_before_fetch (row_of op) i.taken) (accesses_before_fetch (row_of op) i)
    (before_pairs (row_of op) i) served
    ∙ ap (λ (branches : Bool). length (steps_before_fetch (row_of op) branches)) (taken_is op y) in
    ap (drop (length (steps_before_fetch (row_of op) taken))) (told_in_parts op y trace more served is)
    ∙ drop_at (map plain (before_at op y).steps) (plain_course (behind_at op y) ++ more) (length (steps_before_fetch (row_of op) taken)) as_many

-- ---- the interrupt

driver_told : (chosen : Option ℕ) (socket byte : ℕ) → chosen ≡ Some socket →
    driving_socket (Byte byte (socket_or_nobody chosen)) ≡ Some socket
driver_told None socket byte is = is
driver_told (Some other) socket byte is = is

fetch_told : (row : Row) (i : Inputs) (v : Ruling) (more : List TraceStep) →
    interrupting_socket (plain_course (course_by i (last_fetch row) v (record { steps = []; fault = None })) ++ more) ≡ None
fetch_told row i (Served socket) more = refl
fetch_told row i (Conflict parties) more = refl
fetch_told row i (Undriven at) more = refl
fetch_told row i (Astray socket at reference) more = refl

ending_told : (row : Row) (i : Inputs) (c : Flow) (copies : List Copy) (a : Access) (more : List TraceStep) (chosen : Option ℕ) →
    i.chosen ≡ chosen → interrupting_socket (plain_course (course_of i c copies (ending_steps row chosen) (a ∷ [])) ++ more) ≡ chosen
ending_told row i c copies a more None is = fetch_told row i (access_ruling c copies a) more
ending_told row i c copies a more (Some socket) is = driver_told i.chosen socket i.vector_low is

pub vector_told : (op : Op) (y : Position) (trace more : List TraceStep) → (before_at op y).fault ≡ None →
    trace ≡ plain_course (instruction_course op y) ++ more →
    interrupting_socket (from_last_fetch op y trace) ≡ (gets_all_at op y).chosen
vector_told op y trace more served is =
    let i = gets_all_at op y in
    ap interrupting_socket (told_from_fetch op y trace more served is)
    ∙ ending_told (row_of op) i y.flat.state.flow y.copies (last_access (row_of op) i) more i.chosen refl

-- ---- the port

-- the number and the byte of the port, which the second step reads
abbrev TellsPort : ℕ → ℕ → List TraceStep → Type 0
TellsPort port byte trace = (first_byte trace ≡ Some port) × (second_byte trace ≡ Some byte) × (second_code trace ≡ Some 0x1B)

abbrev number_of : Row → Inputs → Option ℕ
number_of PortIn i = Some i.operand
number_of ShortIn i = Some i.port
number_of row i = None

port_in_told : (i : Inputs) (v w : Ruling) (more : List TraceStep) (port : ℕ) → Some i.operand ≡ Some port →
    (port_in_course i v w).fault ≡ None → TellsPort port i.port_byte (map plain (port_in_course i v w).steps ++ more)
port_in_told i (Served a) (Served b) more port is served = (is, refl, refl)
port_in_told i (Served a) (Conflict parties) more port is served = absurd (cc)
port_in_told i (Served a) (Undriven at) more port is served = absurd (cc)
port_in_told i (Served a) (Astray socket at reference) more port is served = absurd (cc)
port_in_told i (Conflict parties) w more port is served = absurd (cc)
port_in_told i (Undriven at) w more port is served = absurd (cc)
port_in_told i (Astray socket at reference) w more port is served = absurd (cc)

short_in_told : (i : Inputs) (w : Ruling) (more : List TraceStep) (port : ℕ) → Some i.port ≡ Some port →
    (short_in_course i w).fault ≡ None → TellsPort port i.port_byte (map plain (short_in_course i w).steps ++ more)
short_in_told i (Served b) more port is served = (is, refl, refl)
short_in_told i (Conflict parties) more port is served = absurd (cc)
short_in_told i (Undriven at) more port is served = absurd (cc)
short_in_told i (Astray socket at reference) more port is served = absurd (cc)

row_tells : (row : Row) (i : Inputs) (c : Flow) (copies : List Copy) (more : List TraceStep) (port : ℕ) → number_of row i ≡ Some port →
    (course_before row i c copies).fault ≡ None → TellsPort port i.port_byte (map plain (course_before row i c copies).steps ++ more)
row_tells PortIn i c copies more port is served =
    port_in_told i (access_ruling c copies (ahead 0x03 1)) (access_ruling c copies (at_port 0x1B i.operand)) more port is served
row_tells ShortIn i c copies more port is served = short_in_told i (access_ruling c copies (at_port 0x1B i.port)) more port is served
row_tells row i c copies more port is served = absurd (cc)

port_byte_is : (op : Op) (y : Position) → (gets_all_at op y).port_byte ≡ port_at op y
unfolding own_inputs
port_byte_is op y = refl

op_tells : (op : Op) (y : Position) (trace more : List TraceStep) (port : ℕ) → number_of (row_of op) (gets_all_at op y) ≡ Some port →
    (before_at op y).fault ≡ None → trace ≡ plain_course (instruction_course op y) ++ more → TellsPort port (port_at op y) trace
op_tells op y trace more port number served is =
    let parts = told_in_parts op y trace more served is in
    let tells = row_tells (row_of op) (gets_all_at op y) y.flat.state.flow y.copies (plain_course (behind_at op y) ++ more) port number served in (
      ap first_byte parts ∙ tells.0,
      ap second_byte parts ∙ tells.1 ∙ ap (λ (byte : ℕ). Some byte) (port_byte_is op y),
      ap second_code parts ∙ tells.2,
    )

operand_is : (y : Position) → number_of PortIn (gets_all_at In y) ≡ Some (byte_at y.flat.memory (places_on y.flat.state.flow.p 1))
unfolding own_inputs
operand_is y = refl

port_is : (n : ℕ) (y : Position) → number_of ShortIn (gets_all_at (Ins n) y) ≡ Some n
unfolding own_inputs
port_is n y = refl

pub in_tells : (y : Position) (trace more : List TraceStep) → (before_at In y).fault ≡ None →
    trace ≡ plain_course (instruction_course In y) ++ more →
    TellsPort (byte_at y.flat.memory (places_on y.flat.state.flow.p 1)) (port_at In y) trace
in_tells y trace more served is = op_tells In y trace more (byte_at y.flat.memory (places_on y.flat.state.flow.p 1)) (operand_is y) served is

pub ins_tells : (n : ℕ) (y : Position) (trace more : List TraceStep) → nat_lt n 2 ≡ false → (before_at (Ins n) y).fault ≡ None →
    trace ≡ plain_course (instruction_course (Ins n) y) ++ more → TellsPort n (port_at (Ins n) y) trace
ins_tells n y trace more other served is =
    op_tells (Ins n) y trace more n
    (ap (λ (own : Bool). number_of (if own then Idle else ShortIn) (gets_all_at (Ins n) y)) other ∙ port_is n y) served is

-- ---- a told byte is one

told_small : (what : TraceWhat) (n : ℕ) → told_byte what ≡ Some n → HasByte what → n < 256
told_small (Byte byte who) n is small = let same : byte ≡ n = cc in rw (sym same) small
told_small Faulted n is small = absurd (cc)

pub first_small : (trace : List TraceStep) (n : ℕ) → first_byte trace ≡ Some n → HaveBytes trace → n < 256
first_small [] n is small = absurd (cc)
first_small (s ∷ later) n is small = told_small s.what n is small.0

pub second_small : (trace : List TraceStep) (n : ℕ) → second_byte trace ≡ Some n → HaveBytes trace → n < 256
second_small [] n is small = absurd (cc)
second_small (s ∷ later) n is small = first_small later n is small.1
