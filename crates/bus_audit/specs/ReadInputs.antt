-- The inputs that are read off the steps which stand next in a trace, by the steps alone. What isn't asked is what a trace dictates only where
-- it can show: whether a chip has the port and what was written there, whether the chip that drives is wired, and its control. So more may be
-- read than is dictated, and the same steps follow. This project's own.
use Rattle.std.specs.Prelude.{ℕ, ◌==◌, ◌||◌, Bool, false, nat_lt, if◌then◌else◌, List, [], ◌∷◌, ◌++◌, Option, Some, None}
use Rattle.console_spec.specs.declared.Event.{Event}
use Rattle.console_spec.specs.declared.Event.TheVariants.{Keys}
use Rattle.bus_audit.specs.Choices.{first_byte, second_byte, interrupting_socket, place_in_chain, pulse_to}
use Rattle.bus_audit.specs.declared.step.TraceStep.{TraceStep}

-- ---- the key byte

abbrev pub first_code : List TraceStep → Option ℕ
first_code [] = None
first_code (s ∷ later) = Some s.romc

abbrev pub second_code : List TraceStep → Option ℕ
second_code [] = None
second_code (s ∷ later) = first_code later

abbrev pub reads_port : Option ℕ → Bool
reads_port None = false
reads_port (Some romc) = romc == 0x1B

-- the byte of a port that is not the processor's own
abbrev pub key_of : Option ℕ → Option ℕ → List Event
key_of None byte = []
key_of (Some port) None = []
key_of (Some port) (Some byte) = if nat_lt port 2 then [] else Keys port byte ∷ []

-- where the second step reads a port, the first one tells its number
abbrev pub read_key : List TraceStep → List Event
read_key trace = if reads_port (second_code trace) then key_of (first_byte trace) (second_byte trace) else []

-- ---- the pulse

-- an instruction ends with the fetch of an opcode, or with an interrupt
abbrev pub begins_end : ℕ → Bool
begins_end romc = (romc == 0x00) || (romc == 0x10)

abbrev pub from_end : List TraceStep → List TraceStep
from_end [] = []
from_end (s ∷ later) = if begins_end s.romc then s ∷ later else from_end later

abbrev pub pulse_of : List ℕ → Option ℕ → List Event
pulse_of chain None = []
pulse_of chain (Some socket) = pulse_to (place_in_chain socket chain)

-- a pulse at the chip whose vector the steps tell
abbrev pub read_pulse : List ℕ → List TraceStep → List Event
read_pulse chain trace = pulse_of chain (interrupting_socket (from_end trace))

-- ---- both

abbrev pub read_inputs : List ℕ → List TraceStep → List Event
read_inputs chain trace = read_key trace ++ read_pulse chain trace
