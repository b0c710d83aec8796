-- The law is proved over the definitions.
use Rattle.rack_run.proofs.TraceLaws.{trace_law}
use Rattle.rack_run.proofs.law.trace_law.Goals as goal

pub returns : goal.returns
returns c = trace_law
