use Rattle.abs_step.specs.MapView.{view_of}
use Rattle.case_step.proofs.FirstFailures.{AreJudged}
use Rattle.case_step.proofs.judging.judge.Given as goal

-- the entries so far are judged
abbrev pub invariant-loop-place : goal.invariant-loop-place
invariant-loop-place l = AreJudged (view_of l.map) l.list l.entry-items l.place l.is_fault_free
