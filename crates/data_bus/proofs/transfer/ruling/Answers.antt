-- What the poll answers is what the bus rule says of the rack.
use Rattle.std.proofs.Common.{◌∙◌}
use Rattle.data_bus.proofs.Judging.{poll_answer-polled}
use Rattle.data_bus.proofs.transfer.ruling.Goals as goal

pub returns-clause-answer : goal.returns-clause-answer
returns-clause-answer g c =
    c.decide.ensures
    ∙ rw (c.as_slice.ensures.value, c.gather-poll.ensures.answer, c.rule_of.ensures.table, c.reference_of.ensures)
    (poll_answer-polled c.args.cycle.now _ _ c.rule_of.ensures.below)
