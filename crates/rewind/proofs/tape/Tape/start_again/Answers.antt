-- Power-on and reset of chips that have lived.
use Rattle.rewind.proofs.TapeStarts.{asked_again, outcome_again, there_again}
use Rattle.rewind.proofs.tape.Tape.start_again.Goals as goal

pub returns-clause-there : goal.returns-clause-there
returns-clause-there g c = λ first ready alike.
    there_again c.self.inside.fill c.copy-chain.result c.self.inside.powers _ first c.start_machine-machine.result.0 alike
    c.start_machine-machine.ensures.chain _ (c.start_machine-machine.ensures.there ready.whole ready.free)

pub returns-clause-outcome : goal.returns-clause-outcome
returns-clause-outcome g c = λ first ready alike.
    outcome_again c.self.inside.fill c.copy-chain.result c.self.inside.powers _ first c.start_machine-machine.result.0 alike
    c.start_machine-machine.ensures.chain _ (c.start_machine-machine.ensures.outcome ready.whole ready.free)

pub returns-clause-asked : goal.returns-clause-asked
returns-clause-asked g c = λ first ready alike.
    asked_again c.self.inside.fill c.copy-chain.result c.self.inside.powers _ first c.start_machine-machine.result.0 alike
    c.start_machine-machine.ensures.chain _ _ (c.start_machine-machine.ensures.asked ready.whole ready.free)
