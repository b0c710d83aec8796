-- What holds of the work, and how much is left.
use Rattle.cart_checker.specs.Worklists.{Holds, Nothing, effort}
use Rattle.cart_checker.specs.WorkView.{map_analysis, work_of}
use Rattle.cart_checker.proofs.worklist.Worklist.run.Given as goal

abbrev pub invariant-loop : goal.invariant-loop
invariant-loop l = Holds (map_analysis l.map l.split) (work_of l.self) (Nothing (map_analysis l.map l.split))

abbrev pub decreases-loop : goal.decreases-loop
decreases-loop l = effort (map_analysis l.map l.split) (work_of l.self)
