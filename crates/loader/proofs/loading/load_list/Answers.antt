-- The list is fetched, and then read.
use Rattle.std.proofs.lemmas.Result.{err_from_is_err_and}
use Rattle.loader.proofs.ConfirmingsLoaded.{list_read, list_stop}
use Rattle.loader.proofs.loading.load_list.Goals as goal

pub returns-in_err-text-clause-works : goal.returns-in_err-text-clause-works
returns-in_err-text-clause-works g c =
    let stopped = err_from_is_err_and c.from_residual.result c.from_residual.ensures.1 in
    rw (stopped.1, stopped.2) (list_stop _ _ c.args.name.now _ c.in_err-text.ensures.works)

pub returns-clause-works : goal.returns-clause-works
returns-clause-works g c =
    list_read _ _ c.args.name.now _ (λ list. list) c.read_list.result c.in_ok-text.ensures.works
    (rw c.as_slice.ensures.value at c.read_list.ensures.says)
