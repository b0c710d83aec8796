-- All sources have their images, so that the cartridge is there.
use Rattle.std.proofs.lemmas.Result.{err_from_is_err_and}
use Rattle.loader.proofs.GamesLoaded.{planned_stops, planned_loaded, cart_is}
use Rattle.loader.proofs.sources.load_planned.Goals as goal

pub returns-in_err-plan : goal.returns-in_err-plan
returns-in_err-plan g c =
    let stopped = err_from_is_err_and c.from_residual.result c.from_residual.ensures.1 in
    rw (stopped.1, stopped.2) (planned_stops _ _ c.args.plan _ c.in_err-plan.ensures.works)

pub returns : goal.returns
returns g c =
    rw (cart_is c.in_ok-plan.plan c.in-Ok.cart c.in_ok-plan.ensures.filled c.in-Ok.ensures.value)
    (planned_loaded _ _ c.args.plan c.in_ok-plan.plan c.in_ok-plan.ensures.works)
