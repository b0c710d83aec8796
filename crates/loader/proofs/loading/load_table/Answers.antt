-- The file is fetched, and then read.
use Rattle.std.proofs.lemmas.Result.{err_from_is_err_and}
use Rattle.toml.specs.View.{table_view}
use Rattle.loader.proofs.ScriptsLoaded.{table_read, table_stop}
use Rattle.loader.proofs.loading.load_table.Goals as goal

pub returns-in_err-bytes-clause-works : goal.returns-in_err-bytes-clause-works
returns-in_err-bytes-clause-works g c =
    let stopped = err_from_is_err_and c.from_residual.result c.from_residual.ensures.1 in
    rw (stopped.1, stopped.2) (table_stop _ _ c.args.name.now _ c.in_err-bytes.ensures.works)

pub returns-clause-works : goal.returns-clause-works
returns-clause-works g c =
    table_read _ _ c.args.name.now _ (λ table. table_view table) c.read_described.result c.in_ok-bytes.ensures.works
    (rw c.as_slice.ensures.value at c.read_described.ensures.says)
