use Rattle.cpu3850.proofs.ReachingLaws.{reaches}
use Rattle.cpu3850.proofs.laws.instruction_law.Goals as goal

pub returns : goal.returns
returns c = reaches
