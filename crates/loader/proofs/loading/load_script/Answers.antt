-- The script is fetched, and then read.
use Rattle.std.proofs.lemmas.Result.{err_from_is_err_and}
use Rattle.pad_script.specs.Reading.{seen}
use Rattle.loader.proofs.ScriptsLoaded.{script_read, script_stop}
use Rattle.loader.proofs.loading.load_script.Goals as goal

pub returns-in_err-text-clause-works : goal.returns-in_err-text-clause-works
returns-in_err-text-clause-works g c =
    let stopped = err_from_is_err_and c.from_residual.result c.from_residual.ensures.1 in
    rw (stopped.1, stopped.2) (script_stop _ _ c.args.script.now _ c.in_err-text.ensures.works)

pub returns-clause-works : goal.returns-clause-works
returns-clause-works g c =
    script_read _ _ c.args.script.now _ seen c.read_run.result c.in_ok-text.ensures.works
    (rw c.as_slice.ensures.value at c.read_run.ensures.says)
