-- Power-on and reset once more, without the entries.
use Rattle.std.proofs.Common.{ap}
use Rattle.rewind.specs.LogEntries.{LogState}
use Rattle.rewind.specs.Tape.{TapeState, begin}
use Rattle.rewind.proofs.TapeStarts.{asked_as, fresh, outcome_as, there_as}
use Rattle.rewind.proofs.tape.Tape.power.Goals as goal

pub returns-clause-taped : goal.returns-clause-taped
returns-clause-taped g c = λ first taped.
    fresh _ _ first (ap (λ (log : LogState). log.played) c.clear.ensures)
    (there_as _ _ _ first c.self-2.view_is (c.start_again-outcome.ensures.there first taped.at.ready taped.alike))
    (c.start_again-outcome.ensures.alike first taped.alike) c.start_again-outcome.result c.begun_by-self-inside.ensures
    (ap (λ (log : LogState). log.left) c.clear.ensures)
    (outcome_as c.start_again-outcome.result _ _ (ap (λ (t : TapeState). begin t first) c.self-2.view_is)
    (c.start_again-outcome.ensures.outcome first taped.at.ready taped.alike))

pub returns-clause-outcome : goal.returns-clause-outcome
returns-clause-outcome g c = λ first taped.
    outcome_as c.start_again-outcome.result _ _ (ap (λ (t : TapeState). begin t first) c.self-2.view_is)
    (c.start_again-outcome.ensures.outcome first taped.at.ready taped.alike)

pub returns-clause-asked : goal.returns-clause-asked
returns-clause-asked g c = λ first taped.
    asked_as _ _ _ _ (ap (λ (t : TapeState). begin t first) c.self-2.view_is)
    (c.start_again-outcome.ensures.asked first taped.at.ready taped.alike)
