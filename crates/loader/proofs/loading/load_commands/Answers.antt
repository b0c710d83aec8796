-- The commands are fetched, and then read.
use Rattle.std.proofs.lemmas.Result.{err_from_is_err_and}
use Rattle.loader.proofs.DebuggingsLoaded.{commands_read, commands_stop}
use Rattle.loader.proofs.loading.load_commands.Goals as goal

pub returns-in_err-text-clause-works : goal.returns-in_err-text-clause-works
returns-in_err-text-clause-works g c =
    let stopped = err_from_is_err_and c.from_residual.result c.from_residual.ensures.1 in
    rw (stopped.1, stopped.2) (commands_stop _ _ c.args.name.now _ c.in_err-text.ensures.works)

pub returns-clause-works : goal.returns-clause-works
returns-clause-works g c =
    commands_read _ _ c.args.name.now _ (λ commands. commands) c.read_session.result c.in_ok-text.ensures.works
    (rw c.as_slice.ensures.value at c.read_session.ensures)
