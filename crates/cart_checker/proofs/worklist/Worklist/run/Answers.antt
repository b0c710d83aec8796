-- Where nothing is due, the least map is found.
use Rattle.std.proofs.Common.{◌≡◌, Bool, true, false, []}
use Rattle.std.specs.Bool.{OnFalse}
use Rattle.cart_checker.specs.WorkView.{map_analysis, work_of}
use Rattle.cart_checker.proofs.Rounds.{least_at_end}
use Rattle.cart_checker.proofs.worklist.Worklist.run.Goals as goal

pub returns-then-not-branch-clause-least : goal.returns-then-not-branch-clause-least
returns-then-not-branch-clause-least c =
    least_at_end (map_analysis c.args.map.now c.args.split.now) c.requires.laws (work_of c.step.new.self) c.in_ok-step.ensures.holds
    (none_due c.in_ok-step.field-0 ((work_of c.step.new.self).due ≡ []) c.if-not-branch.true c.in_ok-step.ensures.end)
  where
    none_due : (more : Bool) (P : Type 0) → more ≡ false → OnFalse more P → P
    none_due true P is due = absurd (cc)
    none_due false P is due = due
