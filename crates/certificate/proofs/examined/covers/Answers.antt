-- What the tree has at the point.
use Rattle.std.proofs.Common.{◌≡◌, Some, None, sym, ap, ◌∙◌}
use Rattle.std.specs.Prelude.{option_map}
use Rattle.std.specs.Map.{lookup}
use Rattle.std.specs.BTreeMap.{is_at}
use Rattle.abs_domain.specs.Joins.{is_state_below}
use Rattle.abs_domain.specs.PointOrder.{point_cmp}
use Rattle.abs_domain.specs.StateView.{state_of}
use Rattle.abs_step.specs.StatesAtPoints.{states_of}
use Rattle.certificate.specs.Examination.{is_under}
use Rattle.certificate.proofs.NextStates.{found_as}
use Rattle.certificate.proofs.examined.covers.Goals as goal

pub returns-in-Some : goal.returns-in-Some
returns-in-Some c =
    let notes = c.args.notes.now.entries in
    let noted : lookup (is_at (point_cmp c.args.point.now)) (states_of notes) ≡ Some (state_of c.in-Some.upper.now) =
    found_as notes c.args.point.now ∙ ap (option_map state_of) (sym c.in-Some.ensures.value) in
    c.below.ensures.test ∙ ap (is_under is_state_below (state_of c.args.state.now)) (sym noted)

pub returns-in-None : goal.returns-in-None
returns-in-None c =
    let notes = c.args.notes.now.entries in
    let absent : lookup (is_at (point_cmp c.args.point.now)) (states_of notes) ≡ None =
    found_as notes c.args.point.now ∙ ap (option_map state_of) (sym c.in-None.ensures.value) in
    ap (is_under is_state_below (state_of c.args.state.now)) (sym absent)
