-- The entry behind the others is at no earlier address.
use Rattle.case_step.proofs.CaseOrders.{pushed_ascends}
use Rattle.case_step.proofs.list.CaseList.push.Goals as goal

pub invariant_of-self-2 : goal.invariant_of-self-2
invariant_of-self-2 c = pushed_ascends _ _ _ _ c.in_ok-push.ensures.items c.self.view_is c.self.invariant c.requires
