-- The text is fetched, and then compiled.
use Rattle.std.proofs.lemmas.Result.{err_from_is_err_and}
use Rattle.loader.proofs.ModulesLoaded.{module_order, module_read, module_stop}
use Rattle.loader.proofs.modules.load_module.Goals as goal

pub returns-in_err-text-clause-works : goal.returns-in_err-text-clause-works
returns-in_err-text-clause-works g c =
    let stopped = err_from_is_err_and c.from_residual.result c.from_residual.ensures.1 in
    rw (stopped.1, stopped.2) (module_stop _ _ c.args.number c.args.name.now _ c.in_err-text.ensures.works)

pub returns-clause-works : goal.returns-clause-works
returns-clause-works g c =
    module_read _ _ c.args.number c.args.name.now _ c.read_module.result c.in_ok-text.ensures.works
    (rw c.as_slice.ensures.value at c.read_module.ensures)

pub returns-clause-order : goal.returns-clause-order
returns-clause-order g c = module_order c.args.number _ (λ object. object) c.read_module.result c.read_module.ensures
