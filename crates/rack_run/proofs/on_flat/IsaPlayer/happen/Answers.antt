-- A pulse leaves the instruction set with the flat machine, also before reset, when nothing has been written.
use Rattle.rack_run.proofs.AskingLaws.{asks_nothing}
use Rattle.rack_run.proofs.FlatTurns.{pulsed_begins, pulsed_stands}
use Rattle.rack_run.proofs.on_flat.IsaPlayer.happen.Goals as goal

pub returns-in-Pulse-clause-begins : goal.returns-in-Pulse-clause-begins
returns-in-Pulse-clause-begins g c = λ x begins. rw c.in-Pulse.is
    (pulsed_begins c.in-Pulse.chip c.args.self.now c.pulse.new.self x begins c.pulse.ensures.early)

pub returns-in-Pulse-clause-at : goal.returns-in-Pulse-clause-at
returns-in-Pulse-clause-at g c = λ x stands. rw c.in-Pulse.is
    (pulsed_stands c.in-Pulse.chip c.args.self.now c.pulse.new.self x stands c.pulse.ensures.stands)

pub returns-in-Keys-clause-asked : goal.returns-in-Keys-clause-asked
returns-in-Keys-clause-asked g c = asks_nothing _ _

pub returns-in-Pulse-clause-asked : goal.returns-in-Pulse-clause-asked
returns-in-Pulse-clause-asked g c = asks_nothing _ _
