-- The first point that is due is taken.
use Rattle.std.proofs.Common.{◌≡◌, refl, sym, ap, ◌∙◌, Some, None}
use Rattle.std.specs.Prelude.{option_map}
use Rattle.abs_domain.specs.StateView.{state_of}
use Rattle.abs_domain.specs.PointOrder.{point_cmp}
use Rattle.abs_step.specs.StatesAtPoints.{states_of}
use Rattle.cart_checker.specs.Worklists.{state_by}
use Rattle.cart_checker.specs.WorkView.{map_analysis, work_of}
use Rattle.cart_checker.proofs.Rounds.{holds_taken, holds_absent}
use Rattle.cart_checker.proofs.WorkReads.{found_as}
use Rattle.cart_checker.proofs.worklist.Worklist.step.Goals as goal

pub settle-requires-clause-holds : goal.settle-requires-clause-holds
settle-requires-clause-holds c =
    let notes = c.args.self.now.notes.entries in
    let noted : state_by point_cmp (states_of notes) c.in-Some.point ≡ Some (state_of c.in-Some-get.state.now) =
    found_as notes c.in-Some.point ∙ ap (option_map state_of) (sym c.in-Some-get.ensures.value) in
    holds_taken (map_analysis c.args.map.now c.args.split.now) c.requires.laws (work_of c.args.self.now) _ c.in-Some.point
    (state_of c.in-Some-get.state.now) (record { due = c.in-Some.ensures.removal; notes = refl }) noted c.requires.holds

pub settle-requires-clause-reached : goal.settle-requires-clause-reached
settle-requires-clause-reached c =
    let notes = c.args.self.now.notes.entries in
    let noted : state_by point_cmp (states_of notes) c.in-Some.point ≡ Some (state_of c.in-Some-get.state.now) =
    found_as notes c.in-Some.point ∙ ap (option_map state_of) (sym c.in-Some-get.ensures.value) in
    c.requires.holds.reached c.in-Some.point (state_of c.in-Some-get.state.now) noted

pub returns-in_default-get-clause-holds : goal.returns-in_default-get-clause-holds
returns-in_default-get-clause-holds c =
    let notes = c.args.self.now.notes.entries in
    let absent : state_by point_cmp (states_of notes) c.in-Some.point ≡ None =
    found_as notes c.in-Some.point ∙ ap (option_map state_of) (sym c.in_default-get.ensures.value) in
    holds_absent (map_analysis c.args.map.now c.args.split.now) c.requires.laws (work_of c.args.self.now) _ c.in-Some.point
    (record { due = c.in-Some.ensures.removal; notes = refl }) absent c.requires.holds
