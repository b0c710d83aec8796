use Rattle.std.proofs.Common.{◌<◌, length, ◌∙◌, arith}
use Rattle.f8_asm.proofs.WordTables.{field_at}
use Rattle.f8_asm.proofs.words.field_in.Goals as goal

pub returns : goal.returns
returns c =
    let within : c.initial_of.result < length c.args.rows.now = omega (arith, c.requires, c.initial_of.ensures.below) in
    c.field_at.ensures ∙ field_at c.args.name.now c.args.rows.now c.initial_of.result _ c.initial_of.ensures.value within
