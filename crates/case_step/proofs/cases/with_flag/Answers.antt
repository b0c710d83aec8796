-- the flag at the place is the one given, and the others stay
use Rattle.std.proofs.Common.{arith}
use Rattle.case_step.proofs.CaseLoops.{flag_written}
use Rattle.case_step.proofs.cases.with_flag.Goals as goal

pub returns : goal.returns
returns c = rw (flag_written c.args.case.w c.args.place c.args.flag (omega arith))
