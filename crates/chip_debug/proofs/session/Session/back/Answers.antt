-- Back by so many instructions.
use Rattle.chip_debug.specs.Standing.{SessionState}
use Rattle.chip_debug.proofs.Returning.{back_is, gone_asks, gone_at, gone_count, gone_played}
use Rattle.chip_debug.proofs.session.Session.back.Goals as goal

pub invariant_of-self : goal.invariant_of-self
invariant_of-self g c =
    gone_played (record { tape = c.self.inside.tape; halt = c.self.inside.halt; breaks = c.self.inside.breaks }) c.go_back.new.tape
    c.go_back.new.halt _ c.go_back.ensures.tape c.go_back.ensures.halt c.self.invariant

pub returns-clause-at : goal.returns-clause-at
returns-clause-at g c = λ scene stands.
    let there = rw (← c.self.view_is) at stands in
    let session : SessionState = record { tape = c.self.inside.tape; halt = c.self.inside.halt; breaks = c.self.inside.breaks } in
    let place = back_is _ _ _ c.self.inside.tape.log.played scene c.saturating_sub-place.ensures c.place.ensures there.entries in
    rw (← place)
    (gone_at session c.go_back.new.tape c.go_back.new.halt _ c.go_back.ensures.tape c.go_back.ensures.halt c.self.invariant _ _ scene there
    (c.go_back.ensures.taped scene.first there.taped) c.go_back.ensures.chain)

pub returns-clause-place : goal.returns-clause-place
returns-clause-place g c = λ scene stands.
    let there = rw (← c.self.view_is) at stands in
    back_is _ _ _ c.self.inside.tape.log.played scene c.saturating_sub-place.ensures c.place.ensures there.entries

pub returns-clause-asked : goal.returns-clause-asked
returns-clause-asked g c = λ scene stands.
    let there = rw (← c.self.view_is) at stands in
    let session : SessionState = record { tape = c.self.inside.tape; halt = c.self.inside.halt; breaks = c.self.inside.breaks } in
    let place = back_is _ _ _ c.self.inside.tape.log.played scene c.saturating_sub-place.ensures c.place.ensures there.entries in
    rw (← place)
    (gone_asks session c.go_back.new.tape c.go_back.new.halt _ c.go_back.ensures.tape c.go_back.ensures.halt c.self.invariant _ _ scene
    there (c.go_back.ensures.taped scene.first there.taped) c.go_back.ensures.chain _ _ (c.go_back.ensures.asked scene.first there.taped))

pub returns-clause-count : goal.returns-clause-count
returns-clause-count g c = rw (← c.self.view_is)
    (gone_count (record { tape = c.self.inside.tape; halt = c.self.inside.halt; breaks = c.self.inside.breaks }) c.go_back.new.tape
    c.go_back.new.halt _ c.go_back.ensures.tape c.go_back.ensures.halt c.self.invariant)
