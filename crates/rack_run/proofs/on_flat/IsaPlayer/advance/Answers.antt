-- The instruction set goes where the flat machine goes, or stops where it stops.
use Rattle.rack_run.proofs.AskingLaws.{asks_nothing}
use Rattle.rack_run.proofs.FlatTurns.{flat_steps_done, flat_steps_halt}
use Rattle.rack_run.proofs.on_flat.IsaPlayer.advance.Goals as goal

pub returns-in-Ok-clause-goes : goal.returns-in-Ok-clause-goes
returns-in-Ok-clause-goes g c = λ x stands.
    flat_steps_done c.args._detail _ _ _ _ x (c.in-Ok.ensures.goes x.flat.state.count x stands)

pub returns-in-Err-clause-cut : goal.returns-in-Err-clause-cut
returns-in-Err-clause-cut g c = λ x stands.
    rw c.in-Err.ensures.same (flat_steps_halt c.args._detail c.args.self.now _ _ x _ stands
    (rw c.p-at.ensures (c.in-Err.ensures.stops x.flat.state.count x stands)))

pub returns-in-Ok-clause-asked : goal.returns-in-Ok-clause-asked
returns-in-Ok-clause-asked g c = λ x stands. asks_nothing _ _
