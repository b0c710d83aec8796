-- The chips are put, and then the probe.
use Rattle.std.proofs.Common.{◌∙◌}
use Rattle.std.proofs.lemmas.Result.{err_from_is_err_and}
use Rattle.chip_debug.proofs.PutLines.{puts_both, puts_one, puts_short, probe_some}
use Rattle.chip_debug.proofs.telling.put_chips.Goals as goal

pub returns-in_err-put_fitted-clause-puts : goal.returns-in_err-put_fitted-clause-puts
returns-in_err-put_fitted-clause-puts g c =
    let p = err_from_is_err_and c.from_residual.result c.from_residual.ensures.1 in
    rw p.1 (puts_short _ _ _ _ _ _ c.in_err-put_fitted.ensures.puts)

pub returns-clause-puts : goal.returns-clause-puts
returns-clause-puts g c =
    puts_both _ c.put.result _ _ _ _ _ c.in_ok-put_fitted.ensures.puts
    (puts_one c.put.result _ _ _ _ (c.as_bytes.ensures.value ∙ c.probe_line.ensures) (probe_some _) c.put.ensures.ok
    c.put.ensures.err)
