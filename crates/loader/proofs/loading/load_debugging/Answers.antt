-- First the cartridge, and then the commands.
use Rattle.std.proofs.lemmas.Result.{err_from_is_err_and}
use Rattle.loader.proofs.DebuggingsLoaded.{debugging_loaded, debugging_without_cart, debugging_without_commands}
use Rattle.loader.proofs.loading.load_debugging.Goals as goal

pub returns-in_err-cartridge : goal.returns-in_err-cartridge
returns-in_err-cartridge g c =
    let stopped = err_from_is_err_and c.from_residual.result c.from_residual.ensures.1 in
    rw (stopped.1, stopped.2) (debugging_without_cart _ _ c.args.cart.now c.args.commands.now _ c.in_err-cartridge.ensures)

pub returns-in_err-commands : goal.returns-in_err-commands
returns-in_err-commands g c =
    let stopped = err_from_is_err_and c.from_residual-in_err-commands.result c.from_residual-in_err-commands.ensures.1 in
    rw (stopped.1, stopped.2)
    (debugging_without_commands _ _ _ c.args.cart.now c.args.commands.now _ _ c.in_ok-cartridge.ensures
    c.in_err-commands.ensures.works
    c.in_err-commands.ensures.order)

pub returns : goal.returns
returns g c =
    debugging_loaded _ _ _ c.args.cart.now c.args.commands.now _ _ c.in_ok-cartridge.ensures c.in_ok-commands.ensures.works
