use Rattle.std.proofs.Common.{◌∙◌}
use Rattle.f8_asm.proofs.WordTables.{field_row}
use Rattle.f8_asm.proofs.words.field_shape.Goals as goal

pub returns : goal.returns
returns c = c.field_in.ensures ∙ field_row c.args.name.now
