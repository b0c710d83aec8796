-- A tape of chips as they are fitted.
use Rattle.std.proofs.Common.{ap}
use Rattle.rewind.specs.LogEntries.{LogState}
use Rattle.rewind.proofs.RackLaws.{racks_forget}
use Rattle.rewind.proofs.TapeStarts.{fresh, outcome_again, there_again}
use Rattle.rewind.proofs.tape.Tape.start.Goals as goal

pub returns-clause-taped : goal.returns-clause-taped
returns-clause-taped g c =
    let fitted = racks_forget.fitted _ c.requires.whole in
    fresh _ _ _ (ap (λ (log : LogState). log.played) c.in_ok-log.ensures)
    (there_again c.args.fill c.args.chain c.args.powers _ _ c.start_machine-machine.result.0 fitted
    c.start_machine-machine.ensures.chain _ (c.start_machine-machine.ensures.there c.requires.whole c.requires.ports))
    (c.start_machine-machine.ensures.alike _ fitted) c.start_machine-machine.result.1 c.begun_by-mode.ensures
    (ap (λ (log : LogState). log.left) c.in_ok-log.ensures)
    (outcome_again c.args.fill c.args.chain c.args.powers _ _ c.start_machine-machine.result.0 fitted
    c.start_machine-machine.ensures.chain _ (c.start_machine-machine.ensures.outcome c.requires.whole c.requires.ports))

pub returns-clause-outcome : goal.returns-clause-outcome
returns-clause-outcome g c =
    outcome_again c.args.fill c.args.chain c.args.powers _ _ c.start_machine-machine.result.0 (racks_forget.fitted _ c.requires.whole)
    c.start_machine-machine.ensures.chain _ (c.start_machine-machine.ensures.outcome c.requires.whole c.requires.ports)
