-- What holds next is covered, or the first of it that isn't is told.
use Rattle.std.proofs.Common.{sym, ◌∙◌}
use Rattle.abs_step.specs.MapView.{view_of}
use Rattle.abs_step.specs.StatesAtPoints.{states_of}
use Rattle.abs_step.specs.StepView.{invariant_at}
use Rattle.certificate.proofs.NextStates.{failure_safe}
use Rattle.certificate.proofs.examined.failure_at.Goals as goal

pub returns-in_err-to-in-Ok : goal.returns-in_err-to-in-Ok
returns-in_err-to-in-Ok c =
    c.from_residual.ensures
    ∙ failure_safe (view_of c.args.map.now) c.args.split.now (states_of c.args.notes.now.entries)
    (invariant_at c.args.point.now c.args.state.now) c.in-Ok.ways _ c.in-Ok.ensures.safe
    c.in-Ok.ensures.successors (sym c.first_open.ensures ∙ c.in_err-to-in-Ok.was)

pub returns-in_ok-to-in-Ok : goal.returns-in_ok-to-in-Ok
returns-in_ok-to-in-Ok c =
    failure_safe (view_of c.args.map.now) c.args.split.now (states_of c.args.notes.now.entries)
    (invariant_at c.args.point.now c.args.state.now) c.in-Ok.ways _ c.in-Ok.ensures.safe
    c.in-Ok.ensures.successors (sym c.first_open.ensures ∙ c.in_ok-to-in-Ok.was)
