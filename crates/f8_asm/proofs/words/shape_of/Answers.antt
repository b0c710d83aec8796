use Rattle.std.proofs.Common.{sym}
use Rattle.f8_asm.proofs.WordTables.{no_long_word}
use Rattle.f8_asm.proofs.words.shape_of.Goals as goal

pub returns-then-name-gt-LONGEST-clause-value : goal.returns-then-name-gt-LONGEST-clause-value
returns-then-name-gt-LONGEST-clause-value c = sym (no_long_word c.args.name.now c.if-name-gt-LONGEST.true)
