-- What a trace dictates for the next instruction of a run: a key byte, so that a port reads as the trace says, and a pulse, so that the
-- interrupt is taken which the trace tells. This project's own.
use Rattle.std.specs.Prelude.{ℕ, ◌+◌, Bool, false, ◌&&◌, ◌==◌, nat_lt, if◌then◌else◌, bit_and, List, [], ◌∷◌, ◌++◌, length, drop}
use Rattle.std.specs.Prelude.{slice_get, Option, Some, None, option_map}
use Rattle.f8_spec.specs.BusArbitration.{Seat}
use Rattle.f8_spec.specs.ChipState.{admits_pulses}
use Rattle.f8_spec.specs.Instructions.{decoded, row_of}
use Rattle.f8_spec.specs.MicroSteps.{steps_before_fetch}
use Rattle.f8_spec.specs.Words.{places_on}
use Rattle.f8_spec.specs.declared.instructions.Op.{Op}
use Rattle.f8_spec.specs.declared.instructions.Op.TheVariants.{In, Ins}
use Rattle.console_spec.specs.AddressSpace.{byte_at}
use Rattle.console_spec.specs.InterruptChoice.{control_of}
use Rattle.console_spec.specs.Processor.{is_taken}
use Rattle.console_spec.specs.Run.{Position, seats_of, opcode_at}
use Rattle.console_spec.specs.Telling.{with_events}
use Rattle.console_spec.specs.Writes.{latch_of, readers}
use Rattle.console_spec.specs.declared.Event.{Event}
use Rattle.console_spec.specs.declared.Event.TheVariants.{Keys, Pulse}
use Rattle.console_spec.specs.declared.PortWrite.{PortWrite}
use Rattle.console_spec.specs.declared.Who.TheVariants.{Cpu, Socket, Nobody}
use Rattle.bus_audit.specs.declared.step.TraceStep.{TraceStep}
use Rattle.bus_audit.specs.declared.step.TraceWhat.{TraceWhat}
use Rattle.bus_audit.specs.declared.step.TraceWhat.TheVariants.{Byte, Fault as Faulted}

-- ---- the key byte

-- the port of a chip that an instruction reads; ports 0 and 1 are the processor's own
abbrev pub unless_own : ℕ → Option ℕ
unless_own port = if nat_lt port 2 then None else Some port

abbrev pub data_port_read : Op → ℕ → Option ℕ
data_port_read In operand = unless_own operand
data_port_read (Ins n) operand = unless_own n
data_port_read op operand = None

abbrev pub told_byte : TraceWhat → Option ℕ
told_byte (Byte byte who) = Some byte
told_byte Faulted = None

abbrev pub first_byte : List TraceStep → Option ℕ
first_byte [] = None
first_byte (s ∷ later) = told_byte s.what

-- a port is read in the second step of an instruction
abbrev pub second_byte : List TraceStep → Option ℕ
second_byte [] = None
second_byte (s ∷ later) = first_byte later

-- where a chip has it as a data port, and the byte has every bit of what was written there
abbrev pub key_to : List PortWrite → List Seat → ℕ → ℕ → List Event
key_to writes seats port byte =
    let latch = latch_of port writes in
    if nat_lt 0 (readers port seats) && (bit_and byte latch == latch) then Keys port byte ∷ [] else []

abbrev pub key_by : List PortWrite → List Seat → Option ℕ → Option ℕ → List Event
key_by writes seats None byte = []
key_by writes seats (Some port) None = []
key_by writes seats (Some port) (Some byte) = key_to writes seats port byte

abbrev pub key_choice : Op → Position → List TraceStep → List Event
key_choice op x trace =
    key_by x.flat.state.writes (seats_of x.copies) (data_port_read op (byte_at x.flat.memory (places_on x.flat.state.flow.p 1)))
    (second_byte trace)

-- ---- the pulse

-- the socket of the chip that drives the low half of the vector, where the steps of an interrupt stand first
abbrev pub driving_socket : TraceWhat → Option ℕ
driving_socket (Byte byte Cpu) = None
driving_socket (Byte byte (Socket socket)) = Some socket
driving_socket (Byte byte Nobody) = None
driving_socket Faulted = None

abbrev pub vector_low_driver : List TraceStep → Option ℕ
vector_low_driver [] = None
vector_low_driver (s ∷ later) = if s.romc == 0x0F then driving_socket s.what else None

abbrev pub driver_past_idle : List TraceStep → Option ℕ
driver_past_idle [] = None
driver_past_idle (s ∷ later) = if s.romc == 0x1C then vector_low_driver later else None

abbrev pub interrupting_socket : List TraceStep → Option ℕ
interrupting_socket [] = None
interrupting_socket (s ∷ later) = if s.romc == 0x10 then driver_past_idle later else None

-- the steps of a trace from the place of the instruction's last fetch on
abbrev pub from_last_fetch : Op → Position → List TraceStep → List TraceStep
from_last_fetch op x trace = drop (length (steps_before_fetch (row_of op) (is_taken op x.flat.state.registers))) trace

-- a chip that can interrupt, and whose control lets pulses in
abbrev pub takes_pulse : Option Seat → List PortWrite → Bool
takes_pulse None writes = false
takes_pulse (Some seat) writes = seat.wired && admits_pulses (control_of seat.ports writes)

-- a chip's place among those described
abbrev pub place_in_chain : ℕ → List ℕ → Option ℕ
place_in_chain socket [] = None
place_in_chain socket (s ∷ later) = if s == socket then Some 0 else option_map (λ place. place + 1) (place_in_chain socket later)

abbrev pub pulse_to : Option ℕ → List Event
pulse_to None = []
pulse_to (Some place) = Pulse place ∷ []

abbrev pub pulse_by : List PortWrite → List Seat → List ℕ → Option ℕ → List Event
pulse_by writes seats chain None = []
pulse_by writes seats chain (Some socket) =
    if takes_pulse (slice_get seats socket) writes then pulse_to (place_in_chain socket chain) else []

abbrev pub pulse_choice : Op → Position → List TraceStep → List Event
pulse_choice op x trace =
    pulse_by x.flat.state.writes (seats_of x.copies) x.chain (interrupting_socket (from_last_fetch op x trace))

-- ---- both

abbrev pub choice_for : Option Op → Position → List TraceStep → List Event
choice_for None x trace = []
choice_for (Some op) x trace = key_choice op x trace ++ pulse_choice op x trace

-- What the steps that stand next in a trace dictate for the instruction at a position.
abbrev pub choice : List TraceStep → Position → List Event
choice trace x = choice_for (decoded (opcode_at x)) x trace

abbrev pub with_choice : List TraceStep → Position → Position
with_choice trace x = with_events (choice trace x) x
