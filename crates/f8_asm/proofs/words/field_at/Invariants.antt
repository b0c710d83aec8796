use Rattle.std.proofs.Common.{◌≡◌, map, length}
use Rattle.f8_asm.specs.Registers.{at_word}
use Rattle.f8_asm.specs.Words.{field_word}
use Rattle.f8_asm.proofs.words.field_at.Given as goal

-- what is left has at the word what the table has
abbrev pub invariant-loop-table : goal.invariant-loop-table
invariant-loop-table l = at_word l.name (map field_word l.table) ≡ at_word l.name (map field_word l.fn.table)

abbrev pub decreases-loop-table : goal.decreases-loop-table
decreases-loop-table l = length l.table
