-- The CPU's own ports beside the flat machine, of whose key bytes and port writes they hold a part.
use Rattle.std.specs.Prelude.{◌≡◌, List, [], ◌∷◌, slice_index}
use Rattle.f8_spec.specs.BusArbitration.{Seat}
use Rattle.console_spec.specs.Writes.{latch_of, takers}
use Rattle.console_spec.specs.Processor.{State}
use Rattle.cpu3850.specs.CpuPorts.{PortBytes}

-- what stands in the ports 0 and 1 of the flat machine
abbrev pub own_ports : State → PortBytes
own_ports s = record {
  latches = latch_of 0 s.writes ∷ latch_of 1 s.writes ∷ [];
  keys = slice_index s.keys 0 ∷ slice_index s.keys 1 ∷ [];
}

-- no chip has the port 0 or 1, where an `OUT` would write it
pub record LeaveOwnPorts (seats : List Seat) : Type 0 where
  pub port_0 : takers 0 seats ≡ 0
  pub port_1 : takers 1 seats ≡ 0
