-- One line is put, or none.
use Rattle.std.proofs.Common.{◌∙◌}
use Rattle.chip_debug.proofs.PutLines.{puts_one, puts_nothing, break_some, stop_some}
use Rattle.chip_debug.proofs.telling.put_halt.Goals as goal

pub returns-in-Some : goal.returns-in-Some
returns-in-Some g c =
    rw c.in-Some.is
    (puts_one c.put.result _ _ _ _ (c.as_bytes.ensures.value ∙ c.halt_line.ensures) (stop_some _) c.put.ensures.ok
    c.put.ensures.err)

pub returns-in-None : goal.returns-in-None
returns-in-None g c =
    rw (c.in-None.is, c.if-broke.true)
    (puts_one c.put-in-None.result _ _ _ _ (c.as_bytes-in-None.ensures.value ∙ c.break_line.ensures) break_some
    c.put-in-None.ensures.ok
    c.put-in-None.ensures.err)

pub returns-in-None-2 : goal.returns-in-None-2
returns-in-None-2 g c = rw (c.in-None.is, c.if-broke.false) (puts_nothing _ _)
