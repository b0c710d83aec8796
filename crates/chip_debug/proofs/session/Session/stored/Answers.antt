-- The last store at an address, in one pass over all that was done.
use Rattle.std.proofs.Common.{◌∙◌, ◌≡◌, ap, sym}
use Rattle.std.specs.Prelude.{Option, is_some}
use Rattle.rack_run.proofs.AskingLaws.{none_asked}
use Rattle.rack_run.specs.declared.ending.Halt.{Halt}
use Rattle.chip_debug.specs.Standing.{SessionState}
use Rattle.chip_debug.proofs.Halts.{none_of}
use Rattle.chip_debug.proofs.Returning.{stored_is}
use Rattle.chip_debug.proofs.Storing.{as_many, finished_entries, finished_left, finished_played, finished_spare, halted_played, none_left}
use Rattle.chip_debug.proofs.Storing.{replayed_asks, still_asks, still_there, stopped_asks, stopped_there}
use Rattle.chip_debug.proofs.Turned.{kept_left, kept_spare}
use Rattle.chip_debug.proofs.session.Session.stored.Goals as goal

pub finish-requires-clause-none : goal.finish-requires-clause-none
finish-requires-clause-none g c =
    none_left c.place-done.result c.self.inside.tape.log c.replay-found.new.tape.log c.place-done.ensures c.self.invariant.left
    c.replay-found.ensures.log.0 c.replay-found.ensures.log.1

pub invariant_of-self : goal.invariant_of-self
invariant_of-self g c =
    let session : SessionState = record { tape = c.self.inside.tape; halt = c.self.inside.halt; breaks = c.self.inside.breaks } in
    halted_played c.instr.new.self c.self.inside.halt
    (kept_left c.instr.result c.finish.new.self c.instr.new.self c.instr.ensures.tape
    ∙ finished_left session c.replay-found.new.tape c.finish.new.self
    c.replay-found.ensures.tape c.replay-found.ensures.log.1 c.replay-found.ensures.log.2 c.finish.ensures.tape c.self.invariant)
    (sym c.is_some.ensures ∙ c.if-is_some.true)

pub invariant_of-self-else-is_some : goal.invariant_of-self-else-is_some
invariant_of-self-else-is_some g c =
    let session : SessionState = record { tape = c.self.inside.tape; halt = c.self.inside.halt; breaks = c.self.inside.breaks } in
    finished_played session c.replay-found.new.tape c.finish.new.self
    c.replay-found.ensures.tape c.replay-found.ensures.log.1 c.replay-found.ensures.log.2 c.finish.ensures.tape c.self.invariant

pub returns-then-is_some-clause-at : goal.returns-then-is_some-clause-at
returns-then-is_some-clause-at g c = λ scene stands.
    let there = rw (← c.self.view_is) at stands in
    let session : SessionState = record { tape = c.self.inside.tape; halt = c.self.inside.halt; breaks = c.self.inside.breaks } in
    let once = c.replay-found.ensures.replayed scene.first there.taped in
    let twice = c.finish.ensures.taped scene.first once.taped in
    stopped_there session c.replay-found.new.tape c.finish.new.self
    c.replay-found.ensures.tape c.replay-found.ensures.log.1 c.replay-found.ensures.log.2 c.finish.ensures.tape c.self.invariant _ _ scene there twice
    (c.finish.ensures.chain ∙ c.replay-found.ensures.chain) (λ none. c.if-done-eq0.false (c.place-done.ensures ∙ none))
    (sym c.is_some.ensures ∙ c.if-is_some.true) c.instr.new.self _ c.instr.result c.instr.ensures.tape c.instr.ensures.machine
    c.instr.ensures.bytes (c.instr.ensures.taped scene.first twice)

pub returns-then-is_some-clause-place : goal.returns-then-is_some-clause-place
returns-then-is_some-clause-place g c = λ scene stands.
    let there = rw (← c.self.view_is) at stands in
    let session : SessionState = record { tape = c.self.inside.tape; halt = c.self.inside.halt; breaks = c.self.inside.breaks } in
    let once = c.replay-found.ensures.replayed scene.first there.taped in
    once.found ∙ stored_is session _ scene there c.self.invariant.left c.args.at c.place-done.result c.place-done.ensures

pub returns-then-is_some-clause-asked : goal.returns-then-is_some-clause-asked
returns-then-is_some-clause-asked g c = λ scene stands.
    let there = rw (← c.self.view_is) at stands in
    let session : SessionState = record { tape = c.self.inside.tape; halt = c.self.inside.halt; breaks = c.self.inside.breaks } in
    let once = c.replay-found.ensures.replayed scene.first there.taped in
    let twice = c.finish.ensures.taped scene.first once.taped in
    let few = replayed_asks _ _ _ _ _ c.place-done.result once.asked
    (none_asked (λ b. (goal.Chip-dyn g (b.vtable, b.value)).queries b.value) c.replay-found.new.rack.items c.finish.new.rack.items
    c.finish.ensures.asked)
    (c.finish.ensures.allowed scene.first once.taped) in
    stopped_asks session c.replay-found.new.tape c.finish.new.self
    c.replay-found.ensures.tape c.replay-found.ensures.log.1 c.replay-found.ensures.log.2 c.finish.ensures.tape c.self.invariant _ _ scene there twice
    (c.finish.ensures.chain ∙ c.replay-found.ensures.chain) (λ none. c.if-done-eq0.false (c.place-done.ensures ∙ none))
    (sym c.is_some.ensures ∙ c.if-is_some.true) c.instr.new.self _ c.instr.result c.instr.ensures.tape c.instr.ensures.machine
    c.instr.ensures.bytes (c.instr.ensures.taped scene.first twice) _ _ _ few (c.instr.ensures.asked scene.first twice)

pub returns-then-is_some-clause-spare : goal.returns-then-is_some-clause-spare
returns-then-is_some-clause-spare g c =
    let session : SessionState = record { tape = c.self.inside.tape; halt = c.self.inside.halt; breaks = c.self.inside.breaks } in
    kept_spare c.instr.result c.finish.new.self c.instr.new.self c.instr.ensures.tape
    ∙ finished_spare session c.replay-found.new.tape c.finish.new.self
    c.replay-found.ensures.tape c.replay-found.ensures.log.1 c.replay-found.ensures.log.2 c.finish.ensures.tape c.self.invariant
    ∙ ap (λ (s : SessionState). s.tape.log.spare) c.self.view_is

pub returns-then-is_some-clause-count : goal.returns-then-is_some-clause-count
returns-then-is_some-clause-count g c = λ scene stands.
    let there = rw (← c.self.view_is) at stands in
    let session : SessionState = record { tape = c.self.inside.tape; halt = c.self.inside.halt; breaks = c.self.inside.breaks } in
    let once = c.replay-found.ensures.replayed scene.first there.taped in
    let twice = c.finish.ensures.taped scene.first once.taped in
    as_many _ _ _ _ scene stands
    (stopped_there session c.replay-found.new.tape c.finish.new.self
    c.replay-found.ensures.tape c.replay-found.ensures.log.1 c.replay-found.ensures.log.2 c.finish.ensures.tape c.self.invariant _ _ scene there twice
    (c.finish.ensures.chain ∙ c.replay-found.ensures.chain) (λ none. c.if-done-eq0.false (c.place-done.ensures ∙ none))
    (sym c.is_some.ensures ∙ c.if-is_some.true) c.instr.new.self _ c.instr.result c.instr.ensures.tape c.instr.ensures.machine
    c.instr.ensures.bytes (c.instr.ensures.taped scene.first twice))

pub returns-else-is_some-clause-at : goal.returns-else-is_some-clause-at
returns-else-is_some-clause-at g c = λ scene stands.
    let there = rw (← c.self.view_is) at stands in
    let session : SessionState = record { tape = c.self.inside.tape; halt = c.self.inside.halt; breaks = c.self.inside.breaks } in
    let once = c.replay-found.ensures.replayed scene.first there.taped in
    let runs = sym c.is_some.ensures ∙ c.if-is_some.false in
    still_there session c.replay-found.new.tape c.finish.new.self
    c.replay-found.ensures.tape c.replay-found.ensures.log.1 c.replay-found.ensures.log.2 c.finish.ensures.tape c.self.invariant _ _ scene there
    (c.finish.ensures.taped scene.first once.taped) (c.finish.ensures.chain ∙ c.replay-found.ensures.chain)
    (none_of c.self.inside.halt runs) runs

pub returns-else-is_some-clause-place : goal.returns-else-is_some-clause-place
returns-else-is_some-clause-place g c = λ scene stands.
    let there = rw (← c.self.view_is) at stands in
    let session : SessionState = record { tape = c.self.inside.tape; halt = c.self.inside.halt; breaks = c.self.inside.breaks } in
    let once = c.replay-found.ensures.replayed scene.first there.taped in
    once.found ∙ stored_is session _ scene there c.self.invariant.left c.args.at c.place-done.result c.place-done.ensures

pub returns-else-is_some-clause-asked : goal.returns-else-is_some-clause-asked
returns-else-is_some-clause-asked g c = λ scene stands.
    let there = rw (← c.self.view_is) at stands in
    let session : SessionState = record { tape = c.self.inside.tape; halt = c.self.inside.halt; breaks = c.self.inside.breaks } in
    let once = c.replay-found.ensures.replayed scene.first there.taped in
    let few = replayed_asks _ _ _ _ _ c.place-done.result once.asked
    (none_asked (λ b. (goal.Chip-dyn g (b.vtable, b.value)).queries b.value) c.replay-found.new.rack.items c.finish.new.rack.items
    c.finish.ensures.asked)
    (c.finish.ensures.allowed scene.first once.taped) in
    still_asks session c.replay-found.new.tape c.finish.new.self
    c.replay-found.ensures.tape c.replay-found.ensures.log.1 c.replay-found.ensures.log.2 c.finish.ensures.tape c.self.invariant _ _ scene there
    (c.finish.ensures.taped scene.first once.taped) (c.finish.ensures.chain ∙ c.replay-found.ensures.chain) _ _
    (sym c.is_some.ensures ∙ c.if-is_some.false) few

pub returns-else-is_some-clause-spare : goal.returns-else-is_some-clause-spare
returns-else-is_some-clause-spare g c =
    let session : SessionState = record { tape = c.self.inside.tape; halt = c.self.inside.halt; breaks = c.self.inside.breaks } in
    finished_spare session c.replay-found.new.tape c.finish.new.self
    c.replay-found.ensures.tape c.replay-found.ensures.log.1 c.replay-found.ensures.log.2 c.finish.ensures.tape c.self.invariant
    ∙ ap (λ (s : SessionState). s.tape.log.spare) c.self.view_is

pub returns-else-is_some-clause-count : goal.returns-else-is_some-clause-count
returns-else-is_some-clause-count g c = λ scene stands.
    let there = rw (← c.self.view_is) at stands in
    let session : SessionState = record { tape = c.self.inside.tape; halt = c.self.inside.halt; breaks = c.self.inside.breaks } in
    let once = c.replay-found.ensures.replayed scene.first there.taped in
    let runs = sym c.is_some.ensures ∙ c.if-is_some.false in
    as_many _ _ _ _ scene stands
    (still_there session c.replay-found.new.tape c.finish.new.self
    c.replay-found.ensures.tape c.replay-found.ensures.log.1 c.replay-found.ensures.log.2 c.finish.ensures.tape c.self.invariant _ _ scene there
    (c.finish.ensures.taped scene.first once.taped) (c.finish.ensures.chain ∙ c.replay-found.ensures.chain)
    (none_of c.self.inside.halt runs) runs)
