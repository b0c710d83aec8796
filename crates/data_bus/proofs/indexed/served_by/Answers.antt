-- Where the step's counter is known, what the listed chips answer is what the bus rule says of the rack.
use Rattle.std.proofs.Common.{◌≡◌, ◌<◌, true, ◌∙◌, sym, ap, arith, rules}
use Rattle.std.proofs.lemmas.List.{length-map}
use Rattle.f8_spec.specs.BusCodes.{counter_of}
use Rattle.data_bus.specs.KnownAgreement.{knows}
use Rattle.data_bus.specs.Steps.{served_of}
use Rattle.data_bus.proofs.KnownPlaces.{rule-known}
use Rattle.data_bus.proofs.Questions.{one_allowed}
use Rattle.data_bus.proofs.ServedSteps.{served-is, lists-known, none-answers, one-answers, one-seated}
use Rattle.data_bus.proofs.indexed.served_by.Goals as goal

pub returns-in-NoOne-clause-answer : goal.returns-in-NoOne-clause-answer
returns-in-NoOne-clause-answer g c =
    let known : knows (counter_of c.args.cycle.now.romc) c.args.index.now.marks ≡ true = sym c.knows.ensures ∙ c.if-not-knows.false in
    let small : c.reference_of-reference.result < 65536 = search rules in
    let lists = lists-known c.args.cycle.now c.args.index.now c.args.probe.now _ c.rule_of-rule.ensures.below c.requires.stands known
    _ _ c.rule_of-rule.ensures.table c.reference_of-reference.ensures small _ c.sockets_at.ensures in
    served-is _ _ (c.served-in-NoOne.ensures
    ∙ ap served_of (none-answers c.args.cycle.now c.args.index.now c.args.probe.now _ c.rule_of-rule.ensures.below c.requires.stands known
    _ _ c.rule_of-rule.ensures.table c.reference_of-reference.ensures small (rw c.in-NoOne.is at lists)))

pub returns-in-One-clause-answer : goal.returns-in-One-clause-answer
returns-in-One-clause-answer g c =
    let known : knows (counter_of c.args.cycle.now.romc) c.args.index.now.marks ≡ true = sym c.knows.ensures ∙ c.if-not-knows.false in
    let small : c.reference_of-reference.result < 65536 = search rules in
    let lists = lists-known c.args.cycle.now c.args.index.now c.args.probe.now _ c.rule_of-rule.ensures.below c.requires.stands known
    _ _ c.rule_of-rule.ensures.table c.reference_of-reference.ensures small _ c.sockets_at.ensures in
    served-is _ _ (c.served-in-One.ensures
    ∙ ap served_of (one-answers c.args.cycle.now c.args.index.now c.args.probe.now _ c.rule_of-rule.ensures.below c.requires.stands known
    _ _ c.rule_of-rule.ensures.table c.reference_of-reference.ensures small c.in-One.socket c.byte_in_socket-byte.result
    (rw c.in-One.is at lists) c.byte_in_socket-byte.ensures.answer))

pub byte_in_socket-byte-requires-clause-seated : goal.byte_in_socket-byte-requires-clause-seated
byte_in_socket-byte-requires-clause-seated g c =
    let known : knows (counter_of c.args.cycle.now.romc) c.args.index.now.marks ≡ true = sym c.knows.ensures ∙ c.if-not-knows.false in
    let small : c.reference_of-reference.result < 65536 = search rules in
    let lists = lists-known c.args.cycle.now c.args.index.now c.args.probe.now _ c.rule_of-rule.ensures.below c.requires.stands known
    _ _ c.rule_of-rule.ensures.table c.reference_of-reference.ensures small _ c.sockets_at.ensures in
    let within = one-seated c.args.cycle.now c.args.index.now c.args.probe.now _ c.rule_of-rule.ensures.below c.requires.stands known
    _ _ c.rule_of-rule.ensures.table c.reference_of-reference.ensures small c.in-One.socket (rw c.in-One.is at lists) in
    omega (arith, within, length-map c.args.rack.now.items (λ b. (goal.Chip-dyn g (b.vtable, b.value)).state b.value))

pub returns-in-One-clause-each : goal.returns-in-One-clause-each
returns-in-One-clause-each g c =
    let known : knows (counter_of c.args.cycle.now.romc) c.args.index.now.marks ≡ true = sym c.knows.ensures ∙ c.if-not-knows.false in
    one_allowed _ c.args.cycle.now.first 0 _ _ (rule-known c.args.cycle.now.romc c.args.index.now.marks c.rule_of-rule.ensures.below known)
    c.byte_in_socket-byte.ensures.each
