-- Each turn of the loop makes one row more right.
use Rattle.std.proofs.Common.{arith}
use Rattle.std.proofs.lemmas.Grind.{common_steps}
use Rattle.f8_isa.proofs.InstructionRows.{one_row_more}
use Rattle.f8_isa.proofs.instruction_table.rows.Goals as goal

pub loop-code-preserved : goal.loop-code-preserved
loop-code-preserved c = record {
  size = grind (arith, common_steps, c.loop-code.invariant.size);
  row = one_row_more _ _ _ (omega arith) c.loop-code.invariant.row c.row.ensures;
}
