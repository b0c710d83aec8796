-- The questions of a step that wasn't served are counted.
use Rattle.std.proofs.Common.{None, map, refl}
use Rattle.f8_machine.proofs.Counting.{tried_by}
use Rattle.f8_machine.proofs.bus_step.whole_step.Goals as goal

pub returns-in-Err-clause-tried : goal.returns-in-Err-clause-tried
returns-in-Err-clause-tried g c =
    tried_by _ (record { romc = c.args.step.now.romc; long = c.args.step.now.long; byte = c.args.placed; first = None }) c.args.bus.now.probe
    (map (λ b. (goal.Chip-dyn g (b.vtable, b.value)).state b.value) c.args.rack.now.items) c.in-Err.fault c.args.bus.now.index
    c.step_asking.new.index _ _ c.args.steps.now c.args.steps.now c.in-Err.ensures.answer c.in-Err.ensures.index_stays c.in-Err.ensures.asked refl
