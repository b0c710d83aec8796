-- The law is proved over the definitions.
use Rattle.rack_run.proofs.EndLaws.{end_law}
use Rattle.rack_run.proofs.law.end_law.Goals as goal

pub returns : goal.returns
returns c = end_law
