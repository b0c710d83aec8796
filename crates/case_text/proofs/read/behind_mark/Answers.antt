-- What the call finds is the rest behind the mark.
use Rattle.std.specs.Prelude.{codes}
use Rattle.case_text.proofs.HeaderMarks.{told_behind}
use Rattle.case_text.proofs.read.behind_mark.Goals as goal

pub returns : goal.returns
returns c = told_behind (codes "F8CASES 1 ") c.args.line.now c.strip_prefix.result c.strip_prefix.ensures.cases
