-- The questions of the step are counted.
use Rattle.std.proofs.Common.{◌∷◌, ◌++◌, [], ◌∙◌, ap, refl, map}
use Rattle.f8_machine.specs.declared.heard.Heard.{Heard}
use Rattle.f8_machine.specs.BusSteps.{heard_served}
use Rattle.f8_machine.proofs.Counting.{counts_by, tried_by}
use Rattle.f8_machine.proofs.bus_step.bus_step_by.Goals as goal

pub returns-in-Ok-clause-counted : goal.returns-in-Ok-clause-counted
returns-in-Ok-clause-counted g c =
    counts_by _ (heard_served c.args.step c.in-Ok.served.byte c.in-Ok.served.socket) c.args.bus.now.index c.step_by.new.index _ _
    c.args.steps.now c.push.new.self c.in-Ok.ensures.marks c.in-Ok.ensures.asked
    (c.push.ensures ∙ ap (λ (h : Heard). c.args.steps.now ++ h ∷ []) c.heard.ensures)

pub returns-in-Err-clause-tried : goal.returns-in-Err-clause-tried
returns-in-Err-clause-tried g c =
    tried_by _
    (record { romc = c.args.step.romc; long = c.args.step.long; byte = c.args.placed; first = c.args.first }) c.args.bus.now.probe
    (map (λ b. (goal.Chip-dyn g (b.vtable, b.value)).state b.value) c.args.rack.now.items) c.in-Err.fault c.args.bus.now.index c.step_by.new.index
    _ _ c.args.steps.now c.args.steps.now c.in-Err.ensures.answer c.in-Err.ensures.index_stays c.in-Err.ensures.asked refl
