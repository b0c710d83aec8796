-- A chip without a source stays, and one with a source gets its image.
use Rattle.std.proofs.lemmas.Result.{err_from_is_err_and}
use Rattle.loader.proofs.SourcesFilled.{filled_none, filled_some, filled_stop}
use Rattle.loader.proofs.sources.fill_at.Goals as goal

pub returns-in_default-clause-works : goal.returns-in_default-clause-works
returns-in_default-clause-works g c = filled_none _ c.args.chip c.args.plan c.in_default.ensures

pub returns-in_err-image-clause-works : goal.returns-in_err-image-clause-works
returns-in_err-image-clause-works g c =
    let stopped = err_from_is_err_and c.from_residual.result c.from_residual.ensures.1 in
    rw (stopped.1, stopped.2)
    (filled_stop _ _ c.args.chip c.args.plan c.in-Some.name.now c.in-Some-room.room c.in-Some.ensures c.in-Some-room.ensures
    _ c.in_err-image.ensures.works)

pub returns-clause-works : goal.returns-clause-works
returns-clause-works g c =
    rw c.fill.ensures.plan
    (filled_some _ _ c.args.chip c.args.plan c.in-Some.name.now c.in-Some-room.room c.in-Some.ensures c.in-Some-room.ensures
    c.in_ok-image.image c.in_ok-image.ensures.works)
