-- The chip in the socket is the one of the rack's list.
use Rattle.std.proofs.Common.{◌∙◌, ◌+◌, ◌≤◌, ap, subst}
use Rattle.std.proofs.Math.Seq.{map-set_same}
use Rattle.f8_spec.specs.BusArbitration.{is_first}
use Rattle.f8_spec.specs.ChipState.{ChipState, offered}
use Rattle.data_bus.specs.KnownPlaces.{byte_in}
use Rattle.data_bus.proofs.Gathering.{chip-in, chip-is}
use Rattle.data_bus.proofs.Questions.{asked_one}
use Rattle.data_bus.proofs.listed_poll.byte_in_socket.Goals as goal

pub byte_of-requires : goal.byte_of-requires
byte_of-requires g c =
    c.requires.chosen c.args.socket _ (chip-in (λ b. (goal.Chip-dyn g (b.vtable, b.value)).state b.value) c.args.rack.now.items
    c.args.socket c.from.result c.index_mut.result.now c.requires.seated c.from.ensures c.index_mut.ensures.value)

pub returns-clause-answer : goal.returns-clause-answer
returns-clause-answer g c = λ s at.
    let here = chip-in (λ b. (goal.Chip-dyn g (b.vtable, b.value)).state b.value) c.args.rack.now.items
    c.args.socket c.from.result c.index_mut.result.now c.requires.seated c.from.ensures c.index_mut.ensures.value in
    c.byte_of.ensures.answer
    ∙ ap (λ (x : ChipState). byte_in (offered c.args.cycle.now.romc (is_first c.args.cycle.now.first c.args.socket) x.view))
    (chip-is _ c.args.socket _ s here at)

pub returns-clause-stays : goal.returns-clause-stays
returns-clause-stays g c =
    map-set_same (λ b. (goal.Chip-dyn g (b.vtable, b.value)).state b.value) c.args.rack.now.items c.from.result c.byte_of.new.chip
    c.index_mut.result.now
    (c.byte_of.ensures.stays ∙ ap (λ b. (goal.Chip-dyn g (b.vtable, b.value)).state b.value) c.index_mut.ensures.value)

pub returns-clause-each : goal.returns-clause-each
returns-clause-each g c =
    asked_one (λ b. (goal.Chip-dyn g (b.vtable, b.value)).queries b.value) 0 c.from.result c.args.rack.now.items c.byte_of.new.chip
    c.index_mut.result.now
    (subst (λ b. (goal.Chip-dyn g (c.byte_of.new.chip.vtable, c.byte_of.new.chip.value)).queries c.byte_of.new.chip.value
    ≤ (goal.Chip-dyn g (b.vtable, b.value)).queries b.value + 1) c.index_mut.ensures.value c.byte_of.ensures.asked)
