-- By how many sockets are listed.
use Rattle.std.proofs.Common.{◌<◌, ◌∙◌, ap, arith, rules}
use Rattle.std.proofs.lemmas.List.{length-map}
use Rattle.data_bus.specs.Steps.{poll_answer}
use Rattle.data_bus.proofs.ListedRacks.{one-within, poll-none, poll-one, poll-several}
use Rattle.data_bus.proofs.listed_poll.ruling_listed.Goals as goal

pub byte_in_socket-byte-requires-clause-seated : goal.byte_in_socket-byte-requires-clause-seated
byte_in_socket-byte-requires-clause-seated g c =
    let small : c.args.reference < 65536 = search rules in
    let within = one-within _ _ _ c.args.cycle.now.first _ c.requires.by_counter c.requires.code c.requires.rule small c.requires.known
    c.in-One.socket (rw c.in-One.is at c.requires.listed) in
    omega (arith, within, length-map c.args.rack.now.items (λ b. (goal.Chip-dyn g (b.vtable, b.value)).state b.value))

pub returns-in-NoOne-clause-answer : goal.returns-in-NoOne-clause-answer
returns-in-NoOne-clause-answer g c =
    let small : c.args.reference < 65536 = search rules in
    c.decide.ensures
    ∙ ap (poll_answer c.args.rule c.args.cycle.now c.args.reference)
    (poll-none _ _ _ c.args.cycle.now.first _ c.requires.by_counter c.requires.code c.requires.rule small c.requires.known
    (rw c.in-NoOne.is at c.requires.listed))

pub returns-in-One-clause-answer : goal.returns-in-One-clause-answer
returns-in-One-clause-answer g c =
    let small : c.args.reference < 65536 = search rules in
    c.decide-in-One.ensures
    ∙ ap (poll_answer c.args.rule c.args.cycle.now c.args.reference)
    (poll-one _ _ _ c.args.cycle.now.first _ c.requires.by_counter c.requires.code c.requires.rule small c.requires.known
    c.in-One.socket c.byte_in_socket-byte.result (rw c.in-One.is at c.requires.listed) c.byte_in_socket-byte.ensures.answer)

pub returns-in-Several-clause-answer : goal.returns-in-Several-clause-answer
returns-in-Several-clause-answer g c =
    let small : c.args.reference < 65536 = search rules in
    c.decide-in-Several.ensures
    ∙ rw (c.as_slice.ensures.value, c.parties_at-parties.ensures)
    (ap (poll_answer c.args.rule c.args.cycle.now c.args.reference)
    (poll-several _ _ _ c.args.cycle.now.first _ c.requires.by_counter c.requires.code c.requires.rule small c.requires.known
    c.in-Several.flags (rw c.in-Several.is at c.requires.listed)))
