-- The chip in the socket is the one of the rack's list.
use Rattle.std.proofs.Common.{sym, ◌∙◌}
use Rattle.std.proofs.lemmas.Bool.{ltb-true, ltb-false}
use Rattle.f8_machine.proofs.Asked.{asks_none, asks_some}
use Rattle.f8_machine.proofs.choose.asks_in.Goals as goal

pub returns-in-Some : goal.returns-in-Some
returns-in-Some g c =
    let found = rw (c.deref.ensures.value, c.from.ensures) at c.in-Some.ensures.lookup in
    c.asks_one.ensures ∙ sym (asks_some _ c.args.rack.now.items c.args.socket _ c.in-Some.chip.now
    (ltb-true _ _ (sym found.0)) found.1)

pub returns-in-None : goal.returns-in-None
returns-in-None g c =
    let found = rw (c.deref.ensures.value, c.from.ensures) at c.in-None.ensures.lookup in
    sym (asks_none _ c.args.rack.now.items c.args.socket (ltb-false _ _ (sym found.0)))
