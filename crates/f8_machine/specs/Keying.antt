-- A key byte from outside. At port 0 or 1 it is the processor's own, and the chips stay as they are; at any other port it comes to every
-- chip, and those that don't have it as a data port stay as they are.
use Rattle.std.specs.Prelude.{◌≡◌, ℕ, nat_lt, Bool, true, false, if◌then◌else◌, List}
use Rattle.f8_spec.specs.ChipState.{ChipState, TakesKeys}
use Rattle.data_bus.specs.Racks.{NumberedZip}
use Rattle.cpu3850.specs.CpuPorts.{with_own_key}
use Rattle.f8_machine.specs.MachineState.{MachineState}

-- the processor has the port itself
abbrev pub is_own : ℕ → Bool
is_own port = nat_lt port 2

-- the chip in a socket, and every chip of a rack
abbrev pub KeysInSocket : ℕ → ℕ → ℕ → ChipState → ChipState → Type 0
KeysInSocket port byte socket old new = TakesKeys port byte old new

abbrev pub RackTakesKeys : ℕ → ℕ → List ChipState → List ChipState → Type 0
RackTakesKeys port byte olds news = NumberedZip (KeysInSocket port byte) 0 olds news

abbrev pub RackKeyedBy : Bool → ℕ → ℕ → List ChipState → List ChipState → Type 0
RackKeyedBy true port byte olds news = news ≡ olds
RackKeyedBy false port byte olds news = RackTakesKeys port byte olds news

abbrev pub RackKeyed : ℕ → ℕ → List ChipState → List ChipState → Type 0
RackKeyed port byte olds news = RackKeyedBy (is_own port) port byte olds news

abbrev pub keyed_machine : ℕ → ℕ → MachineState → MachineState
keyed_machine port byte m =
    if is_own port then record m { cpu = record m.cpu { ports = with_own_key port byte m.cpu.ports } } else m
