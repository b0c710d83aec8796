-- The points of a map ascend.
use Rattle.std.proofs.Common.{◌≡◌, length, sym, subst, arith}
use Rattle.std.specs.List.Sorted.{IsStrictlySortedBy}
use Rattle.abs_domain.specs.PointOrder.{point_cmp}
use Rattle.abs_step.specs.StatesAtPoints.{states_of}
use Rattle.abs_step.proofs.StatesRead.{points_same, count_same}
use Rattle.abs_step.proofs.annotation.Annotation.from_map.Goals as goal

pub invariant_of-result : goal.invariant_of-result
invariant_of-result c =
    let notes = c.args.notes.entries in
    let few = c.requires.few in
    let count : length (states_of notes) ≡ length notes = count_same notes in
    (subst (IsStrictlySortedBy point_cmp) (sym (points_same notes)) c.len-count.ensures.ordered, omega arith)
