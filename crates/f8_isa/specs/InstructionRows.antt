-- The table of instructions by opcode.
use Rattle.std.specs.Prelude.{◌≡◌, ℕ, ◌<◌, true, false, List, length, slice_index_or, Option, Some, None}
use Rattle.f8_spec.specs.Instructions.{InRange, decoded, row_of, clocks_of}
use Rattle.f8_isa.specs.declared.instruction_table.Instruction.{Instruction}

-- an instruction whose fields lie in their ranges, with its row and its clocks
pub record IsInstruction (i : Instruction) : Type 0 where
  pub in_range : InRange i.op
  pub row : i.row ≡ row_of i.op
  pub clocks : i.clocks ≡ clocks_of i.op false
  pub clocks_taken : i.clocks_taken ≡ clocks_of i.op true

-- the instruction that has the opcode, or none where it is reserved
abbrev pub IsRow : ℕ → Option Instruction → Type 0
IsRow code None = decoded code ≡ None
IsRow code (Some i) = (decoded code ≡ Some i.op) × IsInstruction i

pub record IsTable (rows : List (Option Instruction)) : Type 0 where
  pub size : length rows ≡ 256
  pub row : (code : ℕ) → code < 256 → IsRow code (slice_index_or rows code None)
