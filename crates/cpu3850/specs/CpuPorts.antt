-- The ports 0 and 1 of the 3850, which only its own `INS` and `OUTS` reach (Fairchild F8 User's Guide; Mostek 3850 data sheet). Key bytes
-- come from outside.
use Rattle.std.specs.Prelude.{ℕ, nat_lt, if◌then◌else◌, bit_or, List, replicate, slice_index, slice_set}
use Rattle.f8_spec.specs.declared.instructions.Op.{Op}
use Rattle.f8_spec.specs.declared.instructions.Op.TheVariants.{Ins, Outs}

-- by the number of the port: the byte that `OUTS` last put there, and the key byte
pub record PortBytes : Type 0 where
  pub latches : List ℕ
  pub keys : List ℕ

-- at power-on each byte is 0
abbrev pub clear_ports : PortBytes
clear_ports = record { latches = replicate 2 0; keys = replicate 2 0 }

-- a port reads as its latch OR its key byte
abbrev pub own_byte : ℕ → PortBytes → ℕ
own_byte port p = bit_or (slice_index p.latches port) (slice_index p.keys port)

abbrev pub with_latch : ℕ → ℕ → PortBytes → PortBytes
with_latch port byte p = record p { latches = slice_set p.latches port byte }

abbrev pub with_own_key : ℕ → ℕ → PortBytes → PortBytes
with_own_key port byte p = record p { keys = slice_set p.keys port byte }

-- The byte that an instruction works with: `INS` of port 0 or 1 takes what its port reads as, and every other instruction, `IN` of any
-- port among them, the byte on the bus.
abbrev pub read_by : Op → ℕ → PortBytes → ℕ
read_by (Ins n) byte p = if nat_lt n 2 then own_byte n p else byte
read_by op byte p = byte

-- the ports after an instruction: `OUTS` of port 0 or 1 puts the accumulator into its latch, and no other instruction writes one
abbrev pub put_by : Op → ℕ → PortBytes → PortBytes
put_by (Outs n) accumulator p = if nat_lt n 2 then with_latch n accumulator p else p
put_by op accumulator p = p
