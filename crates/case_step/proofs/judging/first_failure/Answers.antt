-- The first failure is found in the order of the cases.
use Rattle.std.proofs.Common.{refl, sym}
use Rattle.case_step.proofs.FirstFailures.{failure_found, failure_later, failure_nowhere}
use Rattle.case_step.proofs.judging.first_failure.Goals as goal

pub loop-case-init : goal.loop-case-init
loop-case-init c = refl

pub returns-then-is_some : goal.returns-then-is_some
returns-then-is_some c =
    failure_found _ _ _ _ c.args.cases.now c.loop-case.case-index c.case-item.result _ _ c.loop-case.invariant c.loop-case-test.true
    c.case-item.is c.failure_of-failure.ensures (sym c.if-is_some.ensures)

pub loop-case-preserved : goal.loop-case-preserved
loop-case-preserved c =
    failure_later _ _ _ _ c.args.cases.now c.loop-case.case-index c.case-item.result c.failure_of-failure.result _
    c.loop-case.invariant c.loop-case-test.true c.case-item.is c.failure_of-failure.ensures (sym c.if-is_some.ensures)

pub returns : goal.returns
returns c = failure_nowhere _ _ _ _ c.args.cases.now c.loop-case.case-index _ c.loop-case.invariant c.loop-case-test.false
