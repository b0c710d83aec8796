-- The port writes of a run, the last one first, and what stands in a port. Ports read and take writes after the Mostek 3851 and 3853 data
-- sheets; that a write which no chip or several chips have is no write of the run is this project's own.
use Rattle.std.specs.Prelude.{ℕ, ◌==◌, if◌then◌else◌, bit_or, List, [], ◌∷◌, length, filter, slice_index}
use Rattle.f8_spec.specs.BusArbitration.{Seat, seat_has_data_port, seat_has_port}
use Rattle.console_spec.specs.declared.PortWrite.{PortWrite}

-- the byte that was last written to a port, and 0 before that
abbrev pub latch_of : ℕ → List PortWrite → ℕ
latch_of port [] = 0
latch_of port (w ∷ ws) = if w.port == port then w.byte else latch_of port ws

-- how many chips have a port as a data port, and how many have it at all
abbrev pub readers : ℕ → List Seat → ℕ
readers port seats = length (filter (λ s. seat_has_data_port s port) seats)

abbrev pub takers : ℕ → List Seat → ℕ
takers port seats = length (filter (λ s. seat_has_port s port) seats)

-- what is written and what comes by the keys
abbrev pub port_value : ℕ → List ℕ → List PortWrite → ℕ
port_value port keys writes = bit_or (latch_of port writes) (slice_index keys port)

-- A port of exactly one chip reads as what stands in it, and any other as 255.
abbrev pub chip_port_byte : ℕ → List Seat → List ℕ → List PortWrite → ℕ
chip_port_byte port seats keys writes = if readers port seats == 1 then port_value port keys writes else 255
