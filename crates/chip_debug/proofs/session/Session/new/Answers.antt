-- The chain of the description's chips, what is said of them, and no break.
use Rattle.std.proofs.Common.{◌∙◌, ap, map, refl, List}
use Rattle.data_bus.specs.Racks.{views}
use Rattle.rewind.specs.Tape.{TapeState}
use Rattle.rack_run.specs.Seating.{kinds_of}
use Rattle.rack_run.specs.Sockets.{chain_of as chain_by}
use Rattle.chip_debug.specs.Carried.{scene_on}
use Rattle.chip_debug.proofs.Placing.{begun_at}
use Rattle.chip_debug.proofs.session.Session.new.Goals as goal

pub returns-clause-at : goal.returns-clause-at
returns-clause-at g c =
    let olds = map (λ b. (goal.Chip-dyn g (b.vtable, b.value)).state b.value) c.args.rack.now.items in
    let tape = c.in_ok-tape.ensures.tape in
    begun_at (record { tape = c.in_ok-tape.tape; halt = c.halt_of.result; breaks = c.none.result })
    c.in_ok-tape.outcome (ap (λ (t : TapeState). t.mode) tape) c.halt_of.ensures
    (ap (λ (t : TapeState). t.log.played) tape) (ap (λ (t : TapeState). t.log.left) tape) _
    (scene_on (chain_by c.args.cart.now.chips (kinds_of olds)) c.args.cart.now.powers (views olds))
    c.in_ok-tape.ensures.taped c.in_ok-tape.ensures.outcome
    (c.in_ok-tape.ensures.chain ∙ c.chain_of-chain.ensures) (ap (λ (t : TapeState). t.fill) tape)
    (ap (λ (t : TapeState). t.powers) tape ∙ c.copy.ensures) refl refl c.none.ensures
