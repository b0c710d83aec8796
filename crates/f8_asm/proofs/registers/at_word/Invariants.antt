use Rattle.std.proofs.Common.{◌≡◌, map, length}
use Rattle.f8_asm.specs.Registers.{at_word}
use Rattle.f8_asm.proofs.registers.at_word.Given as goal

-- what is left of the table has at the word what the table has
abbrev pub invariant-loop-table : goal.invariant-loop-table
invariant-loop-table g l = at_word l.name (map (λ entry. (entry.0.now, entry.1)) l.table) ≡ at_word l.name (map (λ entry. (entry.0.now, entry.1)) l.fn.table)

abbrev pub decreases-loop-table : goal.decreases-loop-table
decreases-loop-table g l = length l.table
