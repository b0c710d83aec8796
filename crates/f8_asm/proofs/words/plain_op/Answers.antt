use Rattle.std.proofs.Common.{◌∙◌}
use Rattle.f8_asm.proofs.WordTables.{plain_row}
use Rattle.f8_asm.proofs.words.plain_op.Goals as goal

pub returns : goal.returns
returns c = c.op_in.ensures ∙ plain_row c.args.name.now
