use Rattle.std.proofs.Common.{length}
use Rattle.f8_asm.specs.Formulas.{formulas}
use Rattle.f8_asm.specs.Statements.{items}
use Rattle.f8_asm.proofs.ItemList.{ItemsOn}
use Rattle.f8_asm.proofs.statements.items.Given as goal

-- the items found and those still read are those of the tokens
abbrev pub invariant-loop-found : goal.invariant-loop-found
invariant-loop-found l = ItemsOn formulas l.found.items l.rest (items formulas (length l.tokens) l.tokens)

-- each turn leaves fewer tokens
abbrev pub decreases-loop-found : goal.decreases-loop-found
decreases-loop-found l = length l.rest
