-- The rows of so many opcodes are right.
use Rattle.std.proofs.Common.{◌≡◌, ℕ, ◌<◌, length, None}
use Rattle.std.specs.Prelude.{slice_index_or}
use Rattle.f8_isa.specs.InstructionRows.{IsRow}
use Rattle.f8_isa.proofs.instruction_table.rows.Given as goal

abbrev pub invariant-loop-code : goal.invariant-loop-code
invariant-loop-code l = record {
  size : length l.rows ≡ 256;
  row : (code : ℕ) → code < l.code → IsRow code (slice_index_or l.rows code None);
}
