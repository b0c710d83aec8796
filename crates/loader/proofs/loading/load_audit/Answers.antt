-- First what the trace is to come from, and then the trace.
use Rattle.std.proofs.lemmas.Result.{err_from_is_err_and}
use Rattle.loader.specs.Seen.{seen_game}
use Rattle.loader.proofs.AuditingsLoaded.{audit_loaded, audit_without_game, audit_without_trace}
use Rattle.loader.proofs.loading.load_audit.Goals as goal

pub returns-in_err-game-clause-works : goal.returns-in_err-game-clause-works
returns-in_err-game-clause-works g c =
    let stopped = err_from_is_err_and c.from_residual.result c.from_residual.ensures.1 in
    rw (stopped.1, stopped.2)
    (audit_without_game _ _ c.args.cart.now c.args.script.now c.args.trace.now _ c.in_err-game.ensures.works)

pub returns-in_err-trace-clause-works : goal.returns-in_err-trace-clause-works
returns-in_err-trace-clause-works g c =
    let stopped = err_from_is_err_and c.from_residual-in_err-trace.result c.from_residual-in_err-trace.ensures.1 in
    rw (stopped.1, stopped.2)
    (audit_without_trace _ _ _ c.args.cart.now c.args.script.now c.args.trace.now _ _ c.in_ok-game.ensures.works
    c.in_err-trace.ensures.works c.in_err-trace.ensures.order)

pub returns-clause-works : goal.returns-clause-works
returns-clause-works g c =
    audit_loaded _ _ _ c.args.cart.now c.args.script.now c.args.trace.now (seen_game c.in_ok-game.game) _ c.in_ok-game.ensures.works
    c.in_ok-trace.ensures.works
