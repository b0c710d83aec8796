-- An event asks nothing, and leaves the index.
use Rattle.std.proofs.Common.{◌∙◌, ap}
use Rattle.rack_run.proofs.AskingLaws.{none_asked}
use Rattle.rack_run.proofs.MachineAsking.{event_asks, keyed_index}
use Rattle.rack_run.proofs.on_rack.MachinePlayer.happen.Goals as goal

pub returns-in-Keys-clause-asked : goal.returns-in-Keys-clause-asked
returns-in-Keys-clause-asked g c =
    event_asks _ _ _ c.args.self.now c.keys.new.self
    (ap (λ m. m.index) c.keys.ensures.machine ∙ keyed_index c.in-Keys.port c.in-Keys.byte c.args.self.now)
    (none_asked (λ b. (goal.Chip-dyn g (b.vtable, b.value)).queries b.value) c.args.rack.now.items c.keys.new.rack.items
    c.keys.ensures.asked)

pub returns-in-Pulse-clause-asked : goal.returns-in-Pulse-clause-asked
returns-in-Pulse-clause-asked g c =
    event_asks _ _ _ c.args.self.now c.pulse.new.self (ap (λ m. m.index) c.pulse.ensures.machine)
    (none_asked (λ b. (goal.Chip-dyn g (b.vtable, b.value)).queries b.value) c.args.rack.now.items c.pulse.new.rack.items
    c.pulse.ensures.asked)
