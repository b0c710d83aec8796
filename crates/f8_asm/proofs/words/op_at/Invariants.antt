use Rattle.std.proofs.Common.{◌≡◌, map, length}
use Rattle.f8_asm.specs.Registers.{at_word}
use Rattle.f8_asm.specs.Words.{own_word}
use Rattle.f8_asm.proofs.words.op_at.Given as goal

-- what is left has at the word what all have
abbrev pub invariant-loop-ops : goal.invariant-loop-ops
invariant-loop-ops l = at_word l.name (map own_word l.ops) ≡ at_word l.name (map own_word l.fn.ops)

abbrev pub decreases-loop-ops : goal.decreases-loop-ops
decreases-loop-ops l = length l.ops
