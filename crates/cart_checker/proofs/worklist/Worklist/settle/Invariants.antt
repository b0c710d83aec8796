-- The ways so far are covered.
use Rattle.cart_checker.specs.WorkView.{work_of}
use Rattle.cart_checker.proofs.Settling.{Settling}
use Rattle.cart_checker.proofs.worklist.Worklist.settle.Given as goal

abbrev pub invariant-loop-place : goal.invariant-loop-place
invariant-loop-place l = Settling l.map l.split (work_of l.initial.self) (work_of l.self) l.fn.point l.fn.state l.ways l.place
