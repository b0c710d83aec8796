-- The start is added to an empty work.
use Rattle.std.proofs.Common.{ap}
use Rattle.abs_step.specs.StatesAtPoints.{states_of}
use Rattle.cart_checker.specs.WorkView.{map_analysis}
use Rattle.cart_checker.proofs.Rounds.{holds_start}
use Rattle.cart_checker.proofs.WorkAdds.{added_first}
use Rattle.cart_checker.proofs.worklist.Worklist.at_start.Goals as goal

pub returns-clause-holds : goal.returns-clause-holds
returns-clause-holds c =
    holds_start (map_analysis c.args.map.now c.args.split.now) c.requires.laws _ _
    (record { notes = ap states_of c.new.ensures.empty; due = c.new-2.ensures.empty })
    (rw (← c.start.ensures.point, ← c.start.ensures.state)
    (added_first _ _ c.start.result.0 _ (ap states_of c.new.ensures.empty) c.in_ok-add.ensures.added))
