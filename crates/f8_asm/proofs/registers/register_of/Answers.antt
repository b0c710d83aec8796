use Rattle.std.proofs.Common.{sym}
use Rattle.f8_asm.specs.Registers.{register_words, register_of}
use Rattle.f8_asm.proofs.WordTables.{no_long_register}
use Rattle.f8_asm.proofs.registers.register_of.Goals as goal

pub returns-then-name-gt-LONGEST : goal.returns-then-name-gt-LONGEST
returns-then-name-gt-LONGEST c = sym (no_long_register c.args.name.now c.if-name-gt-LONGEST.true)

pub returns : goal.returns
unfolding register_of register_words
returns c = c.at_word.ensures
