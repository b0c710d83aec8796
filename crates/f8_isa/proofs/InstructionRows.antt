-- The table of instructions, as it is filled.
use Rattle.std.proofs.Common.{◌≢◌, ℕ, ◌+◌, ◌<◌, List, length, None, arith, get_or-set_other, get_or-set_same, below_more}
use Rattle.std.specs.Prelude.{slice_index_or, slice_set, Option}
use Rattle.f8_isa.specs.InstructionRows.{IsRow}
use Rattle.f8_isa.specs.declared.instruction_table.Instruction.{Instruction}

-- one row more is right
pub one_row_more : (rows : List (Option Instruction)) (count : ℕ) (row : Option Instruction) → count < length rows →
    ((code : ℕ) → code < count → IsRow code (slice_index_or rows code None)) → IsRow count row →
    (code : ℕ) → code < count + 1 → IsRow code (slice_index_or (slice_set rows count row) code None)
one_row_more rows count row inside below here =
    below_more (λ (code : ℕ). IsRow code (slice_index_or (slice_set rows count row) code None)) count
    (λ code earlier. let other : code ≢ count = omega arith in rw get_or-set_other (below code earlier))
    (rw get_or-set_same here)
