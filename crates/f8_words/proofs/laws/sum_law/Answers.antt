-- The law is proved over the definitions.
use Rattle.f8_words.proofs.SumLaws.{sum_law}
use Rattle.f8_words.proofs.laws.sum_law.Goals as goal

pub returns : goal.returns
returns c = sum_law
