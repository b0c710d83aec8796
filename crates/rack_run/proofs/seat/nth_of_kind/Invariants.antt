-- What is left to pass over, among the chips that are left.
use Rattle.std.proofs.Common.{◌≡◌, drop}
use Rattle.std.specs.Prelude.{slice_get}
use Rattle.rack_run.specs.Seating.{of_kind}
use Rattle.rack_run.proofs.seat.nth_of_kind.Given as goal

abbrev pub invariant-loop-spec : goal.invariant-loop-spec
invariant-loop-spec l =
    slice_get (of_kind l.kind (drop l.spec-index l.chips)) l.left ≡ slice_get (of_kind l.kind l.chips) l.before
