-- The count is put, and then what ended the instructions.
use Rattle.std.proofs.Common.{◌∙◌}
use Rattle.std.proofs.lemmas.Result.{err_from_is_err_and}
use Rattle.chip_debug.proofs.PutLines.{puts_behind, puts_cut, ran_some}
use Rattle.chip_debug.proofs.telling.put_going.Goals as goal

pub returns-in_err-put : goal.returns-in_err-put
returns-in_err-put g c =
    let p = err_from_is_err_and c.from_residual.result c.from_residual.ensures.1 in
    rw p.1
    (puts_cut _ _ _ _ _ _ (c.as_bytes.ensures.value ∙ c.ran_line.ensures) (ran_some _) c.in_err-put.ensures.err)

pub returns : goal.returns
returns g c =
    puts_behind c.put_halt.result _ _ _ _ _ _ (c.as_bytes.ensures.value ∙ c.ran_line.ensures) c.in_ok-put.ensures.ok
    c.put_halt.ensures
