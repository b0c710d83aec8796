-- The parts so far are on the list.
use Rattle.std.proofs.Common.{◌≡◌, take}
use Rattle.case_step.proofs.reads.reads.Given as goal

abbrev pub invariant-loop-part : goal.invariant-loop-part
invariant-loop-part l = l.list.items ≡ take l.part-index l.parts
