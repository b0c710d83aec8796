use Rattle.cpu3850.proofs.KeepingLaws.{IsRestorable-taken}
use Rattle.cpu3850.proofs.laws.restore_law.Goals as goal

pub returns-clause-step : goal.returns-clause-step
returns-clause-step c = IsRestorable-taken
