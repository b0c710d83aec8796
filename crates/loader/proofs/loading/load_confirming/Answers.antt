-- First the cartridge, and then the list.
use Rattle.std.proofs.lemmas.Result.{err_from_is_err_and}
use Rattle.loader.proofs.ConfirmingsLoaded.{confirming_loaded, confirming_without_cart, confirming_without_list}
use Rattle.loader.proofs.loading.load_confirming.Goals as goal

pub returns-in_err-cartridge-clause-works : goal.returns-in_err-cartridge-clause-works
returns-in_err-cartridge-clause-works g c =
    let stopped = err_from_is_err_and c.from_residual.result c.from_residual.ensures.1 in
    rw (stopped.1, stopped.2) (confirming_without_cart _ _ c.args.cart.now c.args.cases.now _ c.in_err-cartridge.ensures)

pub returns-in_err-list-clause-works : goal.returns-in_err-list-clause-works
returns-in_err-list-clause-works g c =
    let stopped = err_from_is_err_and c.from_residual-in_err-list.result c.from_residual-in_err-list.ensures.1 in
    rw (stopped.1, stopped.2)
    (confirming_without_list _ _ _ c.args.cart.now c.args.cases.now _ _ c.in_ok-cartridge.ensures c.in_err-list.ensures.works
    c.in_err-list.ensures.order)

pub returns-clause-works : goal.returns-clause-works
returns-clause-works g c =
    confirming_loaded _ _ _ c.args.cart.now c.args.cases.now _ _ c.in_ok-cartridge.ensures c.in_ok-list.ensures.works
