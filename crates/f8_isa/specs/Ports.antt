-- The ports as the instruction set keeps them: the byte last written to each, the key byte of each, and what the chips make of each.
-- Ports read and take writes after the Mostek 3851 and 3853 data sheets; that a port of no chip or of several reads as 255, and that a
-- write to it is lost, is this project's own.
use Rattle.std.specs.Prelude.{ℕ, ◌≡◌, ◌<◌, Bool, false, ◌==◌, nat_lt, if◌then◌else◌, bit_or, List, length, slice_index}
use Rattle.std.specs.Prelude.{slice_index_or, slice_set, Option, Some, None}
use Rattle.f8_spec.specs.BusArbitration.{Seat}
use Rattle.f8_spec.specs.declared.instructions.Op.{Op}
use Rattle.f8_spec.specs.declared.instructions.Op.TheVariants.{In, Out, Ins, Outs}
use Rattle.console_spec.specs.Writes.{latch_of, readers, takers}
use Rattle.console_spec.specs.declared.PortWrite.{PortWrite}
use Rattle.f8_isa.specs.declared.ports.PortByte.{PortByte}

-- by port: its latch, its key byte, that exactly one chip reads there, and that exactly one chip takes a write there
pub record PortState : Type 0 where
  pub latches : List ℕ
  pub keys : List ℕ
  pub readable : List Bool
  pub writable : List Bool

-- ---- reads

abbrev pub kept_value : PortState → ℕ → ℕ
kept_value p port = bit_or (slice_index p.latches port) (slice_index p.keys port)

abbrev pub chip_value : PortState → ℕ → ℕ
chip_value p port = if slice_index_or p.readable port false then kept_value p port else 255

-- the byte that an instruction reads at its port, and 0 where it reads none
abbrev pub value_read : Op → ℕ → PortState → ℕ
value_read In operand p = chip_value p operand
value_read (Ins n) operand p = if nat_lt n 2 then kept_value p n else chip_value p n
value_read op operand p = 0

-- ---- writes

abbrev pub if_writable : PortState → ℕ → Option ℕ
if_writable p port = if slice_index_or p.writable port false then Some port else None

-- the port that takes the write of an instruction
abbrev pub port_taking : Op → ℕ → PortState → Option ℕ
port_taking Out operand p = if_writable p operand
port_taking (Outs n) operand p = if nat_lt n 2 then Some n else if_writable p n
port_taking op operand p = None

-- the write of a byte that a port takes, by the clocks at its instruction's end
abbrev pub clocked : ℕ → Option PortByte → Option PortWrite
clocked phi None = None
clocked phi (Some taken) = Some (record { phi = phi; port = taken.port; byte = taken.byte })

abbrev pub ports_after : Option PortWrite → PortState → PortState
ports_after None p = p
ports_after (Some w) p = record p { latches = slice_set p.latches w.port w.byte }

abbrev pub with_key_byte : ℕ → ℕ → PortState → PortState
with_key_byte port byte p = record p { keys = slice_set p.keys port byte }

-- ---- beside the flat machine

-- each latch has the byte that was last written to its port
pub record AreLatches (latches : List ℕ) (writes : List PortWrite) : Type 0 where
  pub size : length latches ≡ 256
  pub latch : (port : ℕ) → port < 256 → slice_index latches port ≡ latch_of port writes

-- it knows which ports are those of exactly one of these chips
pub record KnowsPorts (p : PortState) (seats : List Seat) : Type 0 where
  pub readable : (port : ℕ) → port < 256 → slice_index_or p.readable port false ≡ (readers port seats == 1)
  pub writable : (port : ℕ) → port < 256 → slice_index_or p.writable port false ≡ (takers port seats == 1)
