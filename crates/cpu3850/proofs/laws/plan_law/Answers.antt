use Rattle.cpu3850.proofs.PlanLaws.{planned-taken}
use Rattle.cpu3850.proofs.laws.plan_law.Goals as goal

pub returns : goal.returns
returns c = planned-taken
