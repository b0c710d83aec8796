-- Dictated runs worked out by hand, computed from the definitions: how many instructions a trace takes, and what of it is left.
use Rattle.std.proofs.Common.{◌≡◌, ℕ, Bool, true, false, List, [], ◌∷◌, ◌++◌, replicate, refl}
use Rattle.f8_spec.specs.ChipState.{ChipView}
use Rattle.console_spec.specs.Run.{chain_in_order}
use Rattle.console_spec.specs.Scripts.{Script}
use Rattle.console_spec.specs.declared.End.TheVariants.{Steps}
use Rattle.console_spec.specs.declared.Event.TheVariants.{Keys}
use Rattle.console_spec.specs.declared.Who.{Who}
use Rattle.console_spec.specs.declared.Who.TheVariants.{Cpu, Socket, Nobody}
use Rattle.console_spec.proofs.Played.{running, steps_alone}
use Rattle.console_spec.proofs.WorkedInterrupts.{wired_psu}
use Rattle.console_spec.proofs.WorkedRacks.{psu}
use Rattle.console_spec.proofs.WorkedRuns.{rom}
use Rattle.bus_audit.specs.declared.step.TraceStep.{TraceStep}
use Rattle.bus_audit.specs.declared.step.TraceWhat.TheVariants.{Byte, Fault as Faulted}
use Rattle.bus_audit.specs.FreeRuns.{Setup}
use Rattle.bus_audit.specs.DictatedRuns.{DictatedEnd, dictated, dictated_from}

-- ---- traces

abbrev short : ℕ → ℕ → Who → TraceStep
short romc byte who = record { romc = romc; long = false; what = Byte byte who }

abbrev long : ℕ → ℕ → Who → TraceStep
long romc byte who = record { romc = romc; long = true; what = Byte byte who }

abbrev fault_at : ℕ → Bool → TraceStep
fault_at romc is_long = record { romc = romc; long = is_long; what = Faulted }

-- reset, with the first opcode
abbrev reset_told : ℕ → List TraceStep
reset_told opcode = short 0x1C 0 Nobody ∷ long 0x08 0 Cpu ∷ short 0x00 opcode (Socket 0) ∷ []

abbrev fetched_alone : ℕ → List TraceStep
fetched_alone opcode = short 0x00 opcode (Socket 0) ∷ []

abbrev left : ℕ → List TraceStep → DictatedEnd
left count rest = record { count = count; rest = rest }

-- chips that are all described, in the order of their sockets, and a script
abbrev with_script : List ChipView → Script → Setup
with_script chips script = record { chips = chips; chain = chain_in_order chips; powers = []; script = script }

abbrev of_chips : List ChipView → Setup
of_chips chips = with_script chips (steps_alone 0 1)

-- ---- LIS 1, NOP and a branch to the NOP

abbrev branching : Setup
branching = of_chips (rom (0x71 ∷ 0x2B ∷ 0x90 ∷ 0xFE ∷ []))

abbrev branch_told : ℕ → List TraceStep
branch_told displacement = short 0x1C 0 Nobody ∷ long 0x01 displacement (Socket 0) ∷ short 0x00 0x2B (Socket 0) ∷ []

abbrev before_branch : List TraceStep
before_branch = reset_told 0x71 ++ fetched_alone 0x2B ++ fetched_alone 0x90

all_told : dictated branching (before_branch ++ branch_told 0xFE) ≡ left 3 []
unfolding running dictated_from
all_told = refl

-- the end of the script doesn't count
script_past_its_end : dictated (record branching { script = steps_alone 0 0 }) (before_branch ++ branch_told 0xFE) ≡ left 3 []
unfolding running dictated_from
script_past_its_end = refl

-- where a byte differs, or a step is missing, all steps of the instruction are left
other_byte : dictated branching (before_branch ++ branch_told 0xFD) ≡ left 2 (branch_told 0xFD)
unfolding running dictated_from
other_byte = refl

step_missing : dictated branching (before_branch ++ short 0x1C 0 Nobody ∷ long 0x01 0xFE (Socket 0) ∷ [])
    ≡ left 2 (short 0x1C 0 Nobody ∷ long 0x01 0xFE (Socket 0) ∷ [])
unfolding running dictated_from
step_missing = refl

other_driver : dictated branching (before_branch ++ short 0x1C 0 Nobody ∷ long 0x01 0xFE (Socket 1) ∷ fetched_alone 0x2B)
    ≡ left 2 (short 0x1C 0 Nobody ∷ long 0x01 0xFE (Socket 1) ∷ fetched_alone 0x2B)
unfolding running dictated_from
other_driver = refl

-- reset alone is no instruction; reset that is broken off is no record
reset_alone : dictated branching (reset_told 0x71) ≡ left 0 []
unfolding running dictated_from
reset_alone = refl

reset_broken_off : dictated branching (short 0x1C 0 Nobody ∷ long 0x08 0 Cpu ∷ [])
    ≡ left 0 (short 0x1C 0 Nobody ∷ long 0x08 0 Cpu ∷ [])
unfolding running dictated_from
reset_broken_off = refl

-- ---- ends

-- without a chip reset is not served, and its fault counts once
no_chip_told : List TraceStep
no_chip_told = short 0x1C 0 Nobody ∷ long 0x08 0 Cpu ∷ fault_at 0x00 false ∷ []

no_chip : dictated (of_chips []) no_chip_told ≡ left 0 []
unfolding running dictated_from no_chip_told
no_chip = refl

behind_no_chip : dictated (of_chips []) (no_chip_told ++ fault_at 0x00 false ∷ []) ≡ left 0 (fault_at 0x00 false ∷ [])
unfolding running dictated_from no_chip_told
behind_no_chip = refl

-- a reserved opcode has no step
reserved : dictated (of_chips (rom (0x2D ∷ []))) (reset_told 0x2D) ≡ left 0 []
unfolding running dictated_from
reserved = refl

behind_reserved : dictated (of_chips (rom (0x2D ∷ []))) (reset_told 0x2D ++ fetched_alone 0xFF) ≡ left 0 (fetched_alone 0xFF)
unfolding running dictated_from
behind_reserved = refl

-- ---- key bytes: LI 0F, OUTS 4, INS 4, and IN of port 2, which no chip has

abbrev keyed : Setup
keyed = of_chips (rom (0x20 ∷ 0x0F ∷ 0xB4 ∷ 0xA4 ∷ 0x26 ∷ 0x02 ∷ []))

abbrev before_key : List TraceStep
before_key =
    reset_told 0x20 ++ long 0x03 0x0F (Socket 0) ∷ short 0x00 0xB4 (Socket 0) ∷ long 0x1C 0x04 Cpu ∷ long 0x1A 0x0F Cpu ∷ fetched_alone 0xA4

abbrev from_key : ℕ → List TraceStep
from_key byte =
    long 0x1C 0x04 Cpu ∷ long 0x1B byte (Socket 0) ∷ short 0x00 0x26 (Socket 0) ∷ long 0x03 0x02 (Socket 0) ∷ fault_at 0x1B true ∷ []

key_told : dictated keyed (before_key ++ from_key 0x3F) ≡ left 3 []
unfolding running dictated_from
key_told = refl

other_key_told : dictated keyed (before_key ++ from_key 0xFF) ≡ left 3 []
unfolding running dictated_from
other_key_told = refl

-- the bits of the latch are set in every byte that is read
bit_of_latch_missing : dictated keyed (before_key ++ from_key 0x30) ≡ left 2 (from_key 0x30)
unfolding running dictated_from
bit_of_latch_missing = refl

-- nothing stands behind a fault
behind_fault : dictated keyed (before_key ++ from_key 0x3F ++ fault_at 0x00 false ∷ []) ≡ left 3 (fault_at 0x00 false ∷ [])
unfolding running dictated_from
behind_fault = refl

-- ---- the processor's own ports: INS 0, OUTS 4 and a branch to that

abbrev own_ports : List ChipView
own_ports = rom (0xA0 ∷ 0xB4 ∷ 0x90 ∷ 0xFE ∷ [])

abbrev own_key : Script
own_key = record { power = 0; end = Steps 3; events = record { frame = 0; event = Keys 0 5 } ∷ []; shows = [] }

abbrev own_begins : List TraceStep
own_begins = reset_told 0xA0 ++ short 0x1C 0 Nobody ∷ fetched_alone 0xB4

abbrev own_goes_on : List TraceStep
own_goes_on =
    long 0x1C 0x04 Cpu ∷ long 0x1A 0x05 Cpu ∷ short 0x00 0x90 (Socket 0) ∷ short 0x1C 0 Nobody ∷ long 0x01 0xFE (Socket 0)
    ∷ fetched_alone 0xB4

own_key_by_script : dictated (with_script own_ports own_key) (own_begins ++ own_goes_on) ≡ left 3 []
unfolding running dictated_from
own_key_by_script = refl

-- a trace dictates none
no_own_key : dictated (of_chips own_ports) (own_begins ++ own_goes_on) ≡ left 1 own_goes_on
unfolding running dictated_from
no_own_key = refl

-- ---- interrupts

-- of a timer, with 26 steps: control 3, the timer loaded with 7F, interrupts let in, and NOPs
abbrev timer_cart : List ChipView
timer_cart = wired_psu 0 4 0x180
    (0x73 ∷ 0xB6 ∷ 0x20 ∷ 0x7F ∷ 0xB7 ∷ replicate 7 0x2B ++ 0x1B ∷ 0x2B ∷ []) ∷ []

abbrev timer_told : List TraceStep
timer_told =
    reset_told 0x73 ++ fetched_alone 0xB6 ++ long 0x1C 0x06 Cpu ∷ long 0x1A 0x03 Cpu ∷ short 0x00 0x20 (Socket 0) ∷ long 0x03 0x7F (Socket 0)
    ∷ short 0x00 0xB7 (Socket 0) ∷ long 0x1C 0x07 Cpu ∷ long 0x1A 0x7F Cpu ∷ replicate 7 (short 0x00 0x2B (Socket 0)) ++ fetched_alone 0x1B
    ++ short 0x1C 0 Nobody ∷ short 0x00 0x2B (Socket 0) ∷ long 0x10 0 Nobody ∷ short 0x1C 0 Nobody ∷ long 0x0F 0x00 (Socket 0)
    ∷ long 0x13 0x01 (Socket 0) ∷ fetched_alone 0xFF

by_timer : dictated (of_chips timer_cart) timer_told ≡ left 13 []
unfolding running dictated_from
by_timer = refl

-- of a pulse that the trace alone tells: control 1 at two chips, of which the first is wired or not, EI and a branch to itself
abbrev pulsed_chips : Bool → List ChipView
pulsed_chips wired =
    record (wired_psu 0 4 0x100 (0x71 ∷ 0xB6 ∷ 0xBA ∷ 0x1B ∷ 0x90 ∷ 0xFF ∷ [])) { wired = wired } ∷ wired_psu 0x400 8 0x200 [] ∷ []

abbrev before_pulse : List TraceStep
before_pulse =
    reset_told 0x71 ++ fetched_alone 0xB6 ++ long 0x1C 0x06 Cpu ∷ long 0x1A 0x01 Cpu ∷ short 0x00 0xBA (Socket 0) ∷ long 0x1C 0x0A Cpu
    ∷ long 0x1A 0x01 Cpu ∷ short 0x00 0x1B (Socket 0) ∷ short 0x1C 0 Nobody ∷ fetched_alone 0x90

abbrev from_pulse : ℕ → ℕ → List TraceStep
from_pulse socket vector_high =
    short 0x1C 0 Nobody ∷ long 0x01 0xFF (Socket 0) ∷ long 0x10 0 Nobody ∷ short 0x1C 0 Nobody ∷ long 0x0F 0x80 (Socket socket)
    ∷ long 0x13 vector_high (Socket socket) ∷ fetched_alone 0xFF

by_first_pulse : dictated (of_chips (pulsed_chips true)) (before_pulse ++ from_pulse 0 1) ≡ left 5 []
unfolding running dictated_from
by_first_pulse = refl

by_second_pulse : dictated (of_chips (pulsed_chips true)) (before_pulse ++ from_pulse 1 2) ≡ left 5 []
unfolding running dictated_from
by_second_pulse = refl

-- a chip that can't interrupt takes no pulse
unwired_takes_none : dictated (of_chips (pulsed_chips false)) (before_pulse ++ from_pulse 0 1) ≡ left 4 (from_pulse 0 1)
unfolding running dictated_from
unwired_takes_none = refl

-- nor does one that isn't described, since it has no place in the chain
undescribed_takes_none : dictated (record (of_chips (pulsed_chips true)) { chain = 1 ∷ [] }) (before_pulse ++ from_pulse 0 1)
    ≡ left 4 (from_pulse 0 1)
unfolding running dictated_from
undescribed_takes_none = refl

-- ---- a trace without a step leaves nothing either; whether a trace has one is another question

no_step : dictated branching [] ≡ left 0 []
unfolding running dictated_from
no_step = refl

-- ---- other reads of a port

-- IN of port 4 has the number behind its opcode
in_told : dictated (of_chips (rom (0x26 ∷ 0x04 ∷ 0x2B ∷ [])))
    (reset_told 0x26 ++ long 0x03 0x04 (Socket 0) ∷ long 0x1B 0x5A (Socket 0) ∷ fetched_alone 0x2B) ≡ left 1 []
unfolding running dictated_from
in_told = refl

-- a port of two chips isn't read in any run
two_chips_port : dictated (of_chips (psu 0 4 (0xA4 ∷ []) ∷ psu 0x400 4 [] ∷ []))
    (reset_told 0xA4 ++ long 0x1C 0x04 Cpu ∷ fault_at 0x1B true ∷ []) ≡ left 0 []
unfolding running dictated_from
two_chips_port = refl

no_byte_of_two : dictated (of_chips (psu 0 4 (0xA4 ∷ []) ∷ psu 0x400 4 [] ∷ []))
    (reset_told 0xA4 ++ long 0x1C 0x04 Cpu ∷ long 0x1B 0x5A (Socket 0) ∷ fetched_alone 0xFF)
    ≡ left 0 (long 0x1C 0x04 Cpu ∷ long 0x1B 0x5A (Socket 0) ∷ fetched_alone 0xFF)
unfolding running dictated_from
no_byte_of_two = refl

-- ---- a pulse whose interrupt was taken doesn't count again: control 1, EI and a branch to itself, and at the vector EI and NOPs

abbrev once_pulsed : List ChipView
once_pulsed = wired_psu 0 4 0x100
    (0x71 ∷ 0xB6 ∷ 0x1B ∷ 0x90 ∷ 0xFF ∷ replicate 379 0xFF ++ 0x1B ∷ 0x2B ∷ 0x2B ∷ []) ∷ []

abbrev once_told : List TraceStep
once_told =
    reset_told 0x71 ++ fetched_alone 0xB6 ++ long 0x1C 0x06 Cpu ∷ long 0x1A 0x01 Cpu ∷ short 0x00 0x1B (Socket 0) ∷ short 0x1C 0 Nobody
    ∷ short 0x00 0x90 (Socket 0) ∷ short 0x1C 0 Nobody ∷ long 0x01 0xFF (Socket 0) ∷ long 0x10 0 Nobody ∷ short 0x1C 0 Nobody
    ∷ long 0x0F 0x80 (Socket 0) ∷ long 0x13 0x01 (Socket 0) ∷ short 0x00 0x1B (Socket 0) ∷ short 0x1C 0 Nobody ∷ short 0x00 0x2B (Socket 0)
    ∷ fetched_alone 0x2B

pulse_counts_once : dictated (of_chips once_pulsed) once_told ≡ left 6 []
unfolding running dictated_from
pulse_counts_once = refl
