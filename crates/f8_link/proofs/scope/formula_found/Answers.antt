use Rattle.f8_asm.proofs.Stacks.{value_on, stack_all, stack_more}
use Rattle.f8_link.proofs.scope.formula_found.Goals as goal

pub loop-step-preserved : goal.loop-step-preserved
loop-step-preserved c =
    rw c.in_ok-take.ensures (stack_more _ _ c.loop-step.step-index c.step-item.result c.loop-step.invariant c.loop-step-test.true c.step-item.is)

pub returns : goal.returns
returns c =
    rw (c.top_of.ensures, c.as_slice.ensures.value)
    (value_on _ _ _ _ (stack_all _ _ c.loop-step.step-index c.loop-step.invariant c.loop-step-test.false))
