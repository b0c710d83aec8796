-- The states so far are covered.
use Rattle.std.proofs.Common.{◌≡◌, drop, map}
use Rattle.abs_domain.specs.Joins.{is_state_below}
use Rattle.abs_domain.specs.PointOrder.{point_cmp}
use Rattle.abs_step.specs.CartridgeAnalysis.{entry_of}
use Rattle.abs_step.specs.StatesAtPoints.{states_of}
use Rattle.certificate.specs.Examination.{first_open}
use Rattle.certificate.proofs.examined.first_open.Given as goal

abbrev pub invariant-loop-place : goal.invariant-loop-place
invariant-loop-place l =
    first_open point_cmp is_state_below (states_of l.notes.entries) (map entry_of (drop l.place l.ways))
    ≡ first_open point_cmp is_state_below (states_of l.notes.entries) (map entry_of l.ways)
