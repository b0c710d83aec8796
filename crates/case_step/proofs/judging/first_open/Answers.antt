-- The first point that is open is found in the order of the points.
use Rattle.std.proofs.Common.{refl, sym, arith}
use Rattle.abs_step.specs.StepView.{invariant_at}
use Rattle.case_step.proofs.FirstFailures.{open_found, open_later, open_nowhere, point_missing}
use Rattle.case_step.proofs.judging.first_open.Goals as goal
use Rattle.case_step.proofs.judging.first_open.Goals.{in-Some+else-not-covers, in_default}

pub loop-place-init : goal.loop-place-init
loop-place-init c = refl

pub returns-then-not-covers : goal.returns-then-not-covers
returns-then-not-covers c =
    open_found _ _ _ _ c.args.ways.now c.loop-place.place (invariant_at c.in-Some.point c.in-Some.state) _ c.loop-place.invariant
    c.in-Some.ensures (sym c.if-not-covers.ensures)

pub loop-place-preserved : goal.loop-place-preserved
loop-place-preserved c = elim c.match-get.branch [
  | in-Some+else-not-covers w ↦ open_later _ _ _ _ c.args.ways.now c.loop-place.place (invariant_at w.in-Some.point w.in-Some.state) _
      c.loop-place.invariant w.in-Some.ensures (sym w.if-not-covers.ensures)
  | in_default w ↦ absurd (point_missing c.args.ways.now c.loop-place.place (omega arith) w.in_default.ensures)
]

pub returns : goal.returns
returns c = open_nowhere _ _ _ _ c.args.ways.now c.loop-place.place _ c.loop-place.invariant (omega arith)
