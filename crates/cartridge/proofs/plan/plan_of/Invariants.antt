-- the chips so far stand in both lists
use Rattle.cartridge.proofs.PlannedChips.{PlansOf}
use Rattle.cartridge.proofs.plan.plan_of.Given as goal

abbrev pub invariant-loop-chip : goal.invariant-loop-chip
invariant-loop-chip l = PlansOf l.yielded l.specs.items l.sources.items
