-- First the cartridge, and then the script.
use Rattle.std.proofs.lemmas.Result.{err_from_is_err_and}
use Rattle.loader.proofs.GamesLoaded.{game_loaded, game_without_cart, game_without_script}
use Rattle.loader.proofs.loading.load_game.Goals as goal

pub returns-in_err-cart-clause-works : goal.returns-in_err-cart-clause-works
returns-in_err-cart-clause-works g c =
    let stopped = err_from_is_err_and c.from_residual.result c.from_residual.ensures.1 in
    rw (stopped.1, stopped.2) (game_without_cart _ _ c.args.cart.now c.args.script.now _ c.in_err-cart.ensures)

pub returns-in_err-script-clause-works : goal.returns-in_err-script-clause-works
returns-in_err-script-clause-works g c =
    let stopped = err_from_is_err_and c.from_residual-in_err-script.result c.from_residual-in_err-script.ensures.1 in
    rw (stopped.1, stopped.2)
    (game_without_script _ _ _ c.args.cart.now c.args.script.now _ _ c.in_ok-cart.ensures c.in_err-script.ensures.works
    c.in_err-script.ensures.order)

pub returns-clause-works : goal.returns-clause-works
returns-clause-works g c =
    game_loaded _ _ _ c.args.cart.now c.args.script.now _ _ c.in_ok-cart.ensures c.in_ok-script.ensures.works
