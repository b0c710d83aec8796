-- Where the step's counter is known, every chip is at the probe's address, and what the listed chips answer is what the bus rule says of
-- the rack.
use Rattle.std.proofs.Common.{◌≡◌, true, ◌∙◌, sym}
use Rattle.f8_spec.specs.BusCodes.{counter_of}
use Rattle.data_bus.specs.KnownAgreement.{knows}
use Rattle.data_bus.proofs.Judging.{poll_answer-polled}
use Rattle.data_bus.proofs.ServedSteps.{all-known}
use Rattle.data_bus.proofs.indexed.ruling_by.Goals as goal

pub ruling_listed-requires-clause-known : goal.ruling_listed-requires-clause-known
ruling_listed-requires-clause-known g c =
    let known : knows (counter_of c.args.cycle.now.romc) c.args.index.now.marks ≡ true = sym c.knows.ensures ∙ c.if-knows.true in
    all-known c.args.cycle.now c.args.index.now c.args.probe.now _ c.rule_of-rule.ensures.below c.requires.stands known _
    c.reference_of-reference.ensures

pub returns-then-knows-clause-answer : goal.returns-then-knows-clause-answer
returns-then-knows-clause-answer g c =
    c.ruling_listed.ensures.answer
    ∙ rw (c.rule_of-rule.ensures.table, c.reference_of-reference.ensures)
    (poll_answer-polled c.args.cycle.now _ _ c.rule_of-rule.ensures.below)
