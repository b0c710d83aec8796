-- One line is put.
use Rattle.std.proofs.Common.{◌∙◌}
use Rattle.chip_debug.proofs.PutLines.{puts_one, ready_some, stop_some}
use Rattle.chip_debug.proofs.telling.put_start.Goals as goal

pub returns-in-None : goal.returns-in-None
returns-in-None g c =
    rw c.in-None.is
    (puts_one c.put.result _ _ _ _ (c.as_bytes.ensures.value ∙ c.ready_line.ensures) ready_some c.put.ensures.ok
    c.put.ensures.err)

pub returns-in-Some : goal.returns-in-Some
returns-in-Some g c =
    rw c.in-Some.is
    (puts_one c.put-in-Some.result _ _ _ _ (c.as_bytes-in-Some.ensures.value ∙ c.halt_line.ensures) (stop_some _)
    c.put-in-Some.ensures.ok
    c.put-in-Some.ensures.err)
