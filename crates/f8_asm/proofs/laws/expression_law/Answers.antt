-- The law is proved over the definitions.
use Rattle.f8_asm.proofs.ExpressionsFormed.{expression_formed}
use Rattle.f8_asm.proofs.ExpressionsRead.{expression_read}
use Rattle.f8_asm.proofs.LongestExpressions.{longest}
use Rattle.f8_asm.proofs.laws.expression_law.Goals as goal

pub returns-clause-reads : goal.returns-clause-reads
returns-clause-reads g c = λ acts ts value rest. (expression_formed acts ts value rest, expression_read acts ts value rest)

pub returns-clause-longest : goal.returns-clause-longest
returns-clause-longest g c = longest
