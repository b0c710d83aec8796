-- Back to an instruction that met a break, in two passes.
use Rattle.std.proofs.Common.{◌≡◌, ◌≤◌, ◌∙◌, ℕ, List, true, ap, ap₂, arith}
use Rattle.std.specs.Prelude.{Option, is_some}
use Rattle.chip_debug.specs.Asking.{behind_allowed}
use Rattle.chip_debug.specs.declared.breaks.Breaks.{Breaks}
use Rattle.chip_debug.specs.Standing.{SessionState}
use Rattle.chip_debug.specs.Stepping.{back_to_break}
use Rattle.chip_debug.proofs.Replays.{place_most}
use Rattle.chip_debug.proofs.Returning.{back_is, found_is, gone_asks, gone_at, gone_count, gone_played, gone_twice, halts_twice, many_most}
use Rattle.chip_debug.proofs.Returning.{less_is, met_is, search_asks, two_passes}
use Rattle.chip_debug.proofs.session.Session.back_run.Goals as goal

pub go_back-requires-clause-within : goal.go_back-requires-clause-within
go_back-requires-clause-within g c =
    many_most c.place-done.result c.unwrap_or-place.result c.self.inside.tape c.replay-met.new.tape c.place-done.ensures
    c.replay-met.ensures.log.1
    (rw c.unwrap_or-place.ensures
    (place_most c.replay-met.result c.saturating_sub.result c.saturating_sub-from.result c.place-done.result c.replay-met.ensures.most
    (omega (arith, c.saturating_sub.ensures)) (omega (arith, c.saturating_sub-from.ensures))))

pub invariant_of-self : goal.invariant_of-self
invariant_of-self g c =
    let session : SessionState = record { tape = c.self.inside.tape; halt = c.self.inside.halt; breaks = c.self.inside.breaks } in
    gone_played session c.go_back.new.tape c.go_back.new.halt _
    (gone_twice _ c.self.inside.tape c.replay-met.new.tape c.go_back.new.tape c.replay-met.ensures.tape c.replay-met.ensures.log.1
    c.go_back.ensures.tape)
    (halts_twice c.unwrap_or-place.result c.self.inside.tape c.replay-met.new.tape c.go_back.new.tape c.replay-met.ensures.tape
    c.replay-met.ensures.log.1 _ _ c.go_back.ensures.halt) c.self.invariant

pub returns-clause-at : goal.returns-clause-at
returns-clause-at g c = λ scene stands.
    let there = rw (← c.self.view_is) at stands in
    let session : SessionState = record { tape = c.self.inside.tape; halt = c.self.inside.halt; breaks = c.self.inside.breaks } in
    let once = c.replay-met.ensures.replayed scene.first there.taped in
    let from = back_is _ _ _ c.self.inside.tape.log.played scene c.saturating_sub-from.ensures c.place-done.ensures there.entries in
    let met = rw c.saturating_sub.ensures at once.found
    ∙ met_is session _ scene there c.self.invariant.left _ _ c.args.count c.saturating_sub-from.ensures c.place-done.ensures in
    let place : c.unwrap_or-place.result ≡ back_to_break c.args.count scene =
    c.unwrap_or-place.ensures ∙ found_is c.replay-met.result c.saturating_sub-from.result c.args.count scene met from in
    rw (← place)
    (gone_at session c.go_back.new.tape c.go_back.new.halt _
    (gone_twice _ c.self.inside.tape c.replay-met.new.tape c.go_back.new.tape c.replay-met.ensures.tape c.replay-met.ensures.log.1
    c.go_back.ensures.tape)
    (halts_twice c.unwrap_or-place.result c.self.inside.tape c.replay-met.new.tape c.go_back.new.tape c.replay-met.ensures.tape
    c.replay-met.ensures.log.1 _ _ c.go_back.ensures.halt) c.self.invariant _ _ scene there
    (c.go_back.ensures.taped scene.first once.taped) (c.go_back.ensures.chain ∙ c.replay-met.ensures.chain))

pub returns-clause-place : goal.returns-clause-place
returns-clause-place g c = λ scene stands.
    let there = rw (← c.self.view_is) at stands in
    let session : SessionState = record { tape = c.self.inside.tape; halt = c.self.inside.halt; breaks = c.self.inside.breaks } in
    let once = c.replay-met.ensures.replayed scene.first there.taped in
    let from = back_is _ _ _ c.self.inside.tape.log.played scene c.saturating_sub-from.ensures c.place-done.ensures there.entries in
    let met = rw c.saturating_sub.ensures at once.found
    ∙ met_is session _ scene there c.self.invariant.left _ _ c.args.count c.saturating_sub-from.ensures c.place-done.ensures in
    c.unwrap_or-place.ensures ∙ found_is c.replay-met.result c.saturating_sub-from.result c.args.count scene met from

pub returns-clause-broke : goal.returns-clause-broke
returns-clause-broke g c = λ scene stands.
    let there = rw (← c.self.view_is) at stands in
    let session : SessionState = record { tape = c.self.inside.tape; halt = c.self.inside.halt; breaks = c.self.inside.breaks } in
    let once = c.replay-met.ensures.replayed scene.first there.taped in
    let met = rw c.saturating_sub.ensures at once.found
    ∙ met_is session _ scene there c.self.invariant.left _ _ c.args.count c.saturating_sub-from.ensures c.place-done.ensures in
    c.is_some.ensures ∙ ap (λ (o : Option ℕ). is_some o) met

pub returns-clause-asked : goal.returns-clause-asked
returns-clause-asked g c = λ scene stands.
    let there = rw (← c.self.view_is) at stands in
    let session : SessionState = record { tape = c.self.inside.tape; halt = c.self.inside.halt; breaks = c.self.inside.breaks } in
    let once = c.replay-met.ensures.replayed scene.first there.taped in
    let from = back_is _ _ _ c.self.inside.tape.log.played scene c.saturating_sub-from.ensures c.place-done.ensures there.entries in
    let met = rw c.saturating_sub.ensures at once.found
    ∙ met_is session _ scene there c.self.invariant.left _ _ c.args.count c.saturating_sub-from.ensures c.place-done.ensures in
    let place : c.unwrap_or-place.result ≡ back_to_break c.args.count scene =
    c.unwrap_or-place.ensures ∙ found_is c.replay-met.result c.saturating_sub-from.result c.args.count scene met from in
    let less = c.saturating_sub.ensures ∙ less_is c.place-done.result c.self.inside.tape.log.played scene c.place-done.ensures there.entries in
    let first = rw less at (search_asks session c.replay-met.new.tape _ c.replay-met.ensures.tape c.replay-met.ensures.log.0 _ _ scene there
    c.self.invariant.left once.taped c.replay-met.ensures.chain _ _ _
    (ap₂ (λ (breaks : Breaks) (chain : List ℕ). behind_allowed true breaks chain) there.breaks there.chain) once.asked) in
    let second = rw place at (gone_asks session c.go_back.new.tape c.go_back.new.halt _
    (gone_twice _ c.self.inside.tape c.replay-met.new.tape c.go_back.new.tape c.replay-met.ensures.tape c.replay-met.ensures.log.1
    c.go_back.ensures.tape)
    (halts_twice c.unwrap_or-place.result c.self.inside.tape c.replay-met.new.tape c.go_back.new.tape c.replay-met.ensures.tape
    c.replay-met.ensures.log.1 _ _ c.go_back.ensures.halt) c.self.invariant _ _ scene there
    (c.go_back.ensures.taped scene.first once.taped) (c.go_back.ensures.chain ∙ c.replay-met.ensures.chain) _ _
    (c.go_back.ensures.asked scene.first once.taped)) in
    two_passes _ _ _ _ _ first second

pub returns-clause-count : goal.returns-clause-count
returns-clause-count g c = rw (← c.self.view_is)
    (gone_count (record { tape = c.self.inside.tape; halt = c.self.inside.halt; breaks = c.self.inside.breaks }) c.go_back.new.tape
    c.go_back.new.halt _
    (gone_twice _ c.self.inside.tape c.replay-met.new.tape c.go_back.new.tape c.replay-met.ensures.tape c.replay-met.ensures.log.1
    c.go_back.ensures.tape)
    (halts_twice c.unwrap_or-place.result c.self.inside.tape c.replay-met.new.tape c.go_back.new.tape c.replay-met.ensures.tape
    c.replay-met.ensures.log.1 _ _ c.go_back.ensures.halt) c.self.invariant)
