-- The questions of the step are counted.
use Rattle.std.proofs.Common.{◌∷◌, ◌++◌, [], ◌∙◌, ap}
use Rattle.f8_machine.specs.declared.heard.Heard.{Heard}
use Rattle.f8_machine.specs.BusSteps.{heard_served}
use Rattle.f8_machine.proofs.Counting.{counts_by}
use Rattle.f8_machine.proofs.bus_step.known_step.Goals as goal

pub returns-in-Some-clause-counted : goal.returns-in-Some-clause-counted
returns-in-Some-clause-counted g c =
    counts_by _ (heard_served c.args.step.now c.in-Some.served.byte c.in-Some.served.socket) c.args.bus.now.index c.step_known.new.index _ _
    c.args.steps.now c.push.new.self c.in-Some.ensures.marks c.in-Some.ensures.asked
    (c.push.ensures ∙ ap (λ (h : Heard). c.args.steps.now ++ h ∷ []) c.heard.ensures)
