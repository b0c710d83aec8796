-- The place is put, and then the break, if there is one.
use Rattle.std.proofs.Common.{Ok, Err, ◌∙◌}
use Rattle.std.proofs.lemmas.Result.{err_from_is_err_and}
use Rattle.chip_debug.proofs.PutLines.{at_some, break_some, puts_behind, puts_cut, puts_nothing, puts_one}
use Rattle.chip_debug.proofs.telling.put_back.Goals as goal

pub returns-in_err-put : goal.returns-in_err-put
returns-in_err-put g c =
    let p = err_from_is_err_and c.from_residual.result c.from_residual.ensures.1 in
    rw p.1 (puts_cut _ _ _ _ _ _ (c.as_bytes.ensures.value ∙ c.at_line.ensures) (at_some _) c.in_err-put.ensures.err)

pub returns-in_err-put-2 : goal.returns-in_err-put-2
returns-in_err-put-2 g c =
    let p = err_from_is_err_and c.from_residual-in_err-put-2.result c.from_residual-in_err-put-2.ensures.1 in
    rw (p.1, c.if-broke.true)
    (puts_behind (Err p.0) _ _ _ _ _ _ (c.as_bytes.ensures.value ∙ c.at_line.ensures) c.in_ok-put.ensures.ok
    (puts_cut _ _ _ _ _ _ (c.as_bytes-then-broke.ensures.value ∙ c.break_line.ensures) break_some c.in_err-put-2.ensures.err))

pub returns-in_ok-put-2 : goal.returns-in_ok-put-2
returns-in_ok-put-2 g c =
    rw c.if-broke.true
    (puts_behind (Ok tt) _ _ _ _ _ _ (c.as_bytes.ensures.value ∙ c.at_line.ensures) c.in_ok-put.ensures.ok
    (puts_one (Ok tt) _ _ _ _ (c.as_bytes-then-broke.ensures.value ∙ c.break_line.ensures) break_some
    c.in_ok-put-2.ensures.ok tt))

pub returns-else-broke : goal.returns-else-broke
returns-else-broke g c =
    rw c.if-broke.false
    (puts_behind (Ok tt) _ _ _ _ _ _ (c.as_bytes.ensures.value ∙ c.at_line.ensures) c.in_ok-put.ensures.ok (puts_nothing tt _))
