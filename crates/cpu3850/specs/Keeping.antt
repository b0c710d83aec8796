-- What an instruction may change before its last step, and how it is put back where the last step isn't served.
use Rattle.std.specs.Prelude.{◌≡◌, ℕ, ◌+◌, List, Option, Some, None}
use Rattle.f8_spec.specs.Flags.{Status}
use Rattle.f8_spec.specs.Instructions.{decoded}
use Rattle.f8_spec.specs.declared.instructions.Op.{Op}
use Rattle.console_spec.specs.Processor.{Registers, scratch_byte, with_pair}
use Rattle.cpu3850.specs.CpuSteps.{CpuState, pair_of}

-- the accumulator, ISAR, the status word, two registers with their bytes, and the latches of the CPU's own ports
pub record KeptRegisters : Type 0 where
  pub accumulator : ℕ
  pub isar : ℕ
  pub status : Status
  pub pair : ℕ
  pub high : ℕ
  pub low : ℕ
  pub latches : List ℕ

abbrev pub pair_as : Option Op → ℕ
pair_as None = 12
pair_as (Some op) = pair_of op

abbrev pub kept_with : ℕ → List ℕ → Registers → KeptRegisters
kept_with pair latches m = record {
  accumulator = m.accumulator;
  isar = m.isar;
  status = m.status;
  pair = pair;
  high = scratch_byte pair m;
  low = scratch_byte (pair + 1) m;
  latches = latches;
}

-- what is kept of a CPU: the pair is the one that the instruction held may load
abbrev pub kept_of : CpuState → KeptRegisters
kept_of c = kept_with (pair_as (decoded c.opcode)) c.ports.latches c.registers

abbrev pub restored_registers : KeptRegisters → Registers → Registers
restored_registers kept m =
    with_pair kept.pair kept.high kept.low (record m { accumulator = kept.accumulator; isar = kept.isar; status = kept.status })

-- the CPU with what was kept put back
abbrev pub restored : KeptRegisters → CpuState → CpuState
restored kept c = record c { registers = restored_registers kept c.registers; ports = record c.ports { latches = kept.latches } }

-- the CPU differs from what it was in nothing but what was kept of it then
abbrev pub IsRestorable : CpuState → CpuState → Type 0
IsRestorable start c = restored (kept_of start) c ≡ start
