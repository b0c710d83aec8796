use Rattle.f8_isa.proofs.PulsedStanding.{takes-pulse, takes-early_pulse}
use Rattle.f8_isa.specs.contracts.machine.Isa.{the_view}
use Rattle.f8_isa.proofs.machine.Isa.pulse.Goals as goal

pub returns-clause-stands : goal.returns-clause-stands
returns-clause-stands c = rw (c.pulse.ensures, ← c.self.view_is) (takes-pulse c.args.chip (the_view c.self.inside))

pub returns-clause-early : goal.returns-clause-early
returns-clause-early c = rw (c.pulse.ensures, ← c.self.view_is) (takes-early_pulse c.args.chip (the_view c.self.inside))
