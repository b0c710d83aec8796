-- The description is fetched and read, and then the sources of its chips.
use Rattle.std.proofs.lemmas.Result.{err_from_is_err_and}
use Rattle.loader.proofs.GamesLoaded.{cart_stop, cart_unread, cart_loaded}
use Rattle.loader.proofs.loading.load_cart.Goals as goal

pub returns-in_err-bytes : goal.returns-in_err-bytes
returns-in_err-bytes g c =
    let stopped = err_from_is_err_and c.from_residual.result c.from_residual.ensures.1 in
    rw (stopped.1, stopped.2) (cart_stop _ _ c.args.name.now _ c.in_err-bytes.ensures.works)

pub returns-in_err-plan : goal.returns-in_err-plan
returns-in_err-plan g c =
    let stopped = err_from_is_err_and c.from_residual-in_err-plan.result c.from_residual-in_err-plan.ensures.1 in
    rw (stopped.1, stopped.2)
    (cart_unread _ _ c.args.name.now _ (λ plan. plan) _ c.in_ok-bytes.ensures.works
    (rw c.as_slice.ensures.value at c.in_err-plan.ensures.says))

pub returns : goal.returns
returns g c =
    cart_loaded _ _ _ c.args.name.now _ _ c.load_planned.result c.in_ok-bytes.ensures.works
    (rw c.as_slice.ensures.value at c.in_ok-plan.ensures.says) c.load_planned.ensures
