-- The first of those that were asked.
use Rattle.std.proofs.Common.{sym, ap, ◌∙◌}
use Rattle.std.specs.Prelude.{position}
use Rattle.f8_machine.proofs.Asked.{first_asks, first_none, first_some, names_by}
use Rattle.f8_machine.proofs.choose.first_in.Goals as goal

pub returns-in_err-place-clause-first : goal.returns-in_err-place-clause-first
returns-in_err-place-clause-first g c =
    c.from_residual.ensures ∙ (rw (c.as_slice-sockets.ensures.value) at (first_none _ c.as_slice-sockets.result.now
    (c.in_err-place.ensures.first ∙ ap (position (λ asking. asking)) c.asks_of-asks.ensures)))

pub returns-clause-first : goal.returns-clause-first
returns-clause-first g c =
    rw (c.from.ensures, c.as_slice-sockets.ensures.value) (rw (c.as_slice-sockets.ensures.value) at (first_some _
    c.as_slice-sockets.result.now c.in_ok-place.place
    (c.in_ok-place.ensures.first ∙ ap (position (λ asking. asking)) c.asks_of-asks.ensures)))

pub returns-clause-asking : goal.returns-clause-asking
returns-clause-asking g c =
    rw (c.from.ensures) (names_by _ _ (first_asks _ c.as_slice-sockets.result.now _ (sym (first_some _
    c.as_slice-sockets.result.now c.in_ok-place.place
    (c.in_ok-place.ensures.first ∙ ap (position (λ asking. asking)) c.asks_of-asks.ensures)))))
