use Rattle.std.proofs.Common.{◌+◌, ◌-◌, ◌*◌, ◌<◌, length}
use Rattle.f8_asm.specs.Formulas.{formulas}
use Rattle.f8_asm.specs.Grammar.{operand, level}
use Rattle.f8_asm.proofs.Chain.{ChainOn}
use Rattle.f8_asm.proofs.grammar.+expression.Given as goal

-- each call opens one more, or goes to a tighter operator, or from an operand to what it is made of
abbrev pub decreases-parenthesis_expression : goal.decreases-parenthesis_expression
decreases-parenthesis_expression l = 16 * l.depth + 8

abbrev pub decreases-mark_operand : goal.decreases-mark_operand
decreases-mark_operand l = 16 * l.depth

abbrev pub decreases-behind_prefix : goal.decreases-behind_prefix
decreases-behind_prefix l = 16 * l.depth + 2

abbrev pub decreases-operand : goal.decreases-operand
decreases-operand l = 16 * l.depth + 1

abbrev pub decreases-level : goal.decreases-level
decreases-level l = 16 * l.depth + 2 + l.strength

-- what is still read makes the whole
abbrev pub invariant-level-loop-first : goal.invariant-level-loop-first
invariant-level-loop-first l =
    record {
      on : ChainOn formulas l.strength (level formulas (operand formulas l.depth) (l.strength - 1)) l.left l.rest
          (level formulas (operand formulas l.depth) l.strength l.tokens);
      less : length l.rest < length l.tokens;
    }

-- each turn leaves fewer tokens
abbrev pub decreases-level-loop-first : goal.decreases-level-loop-first
decreases-level-loop-first l = length l.rest
