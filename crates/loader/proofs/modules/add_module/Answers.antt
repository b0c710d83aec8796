-- The text is loaded, and the module goes behind the others.
use Rattle.std.proofs.lemmas.Result.{err_from_is_err_and}
use Rattle.f8_link.specs.Plans.{module_seen}
use Rattle.loader.proofs.ModulesLoaded.{added, added_short, added_stop}
use Rattle.loader.proofs.modules.add_module.Goals as goal

pub returns-in_err-object-clause-works : goal.returns-in_err-object-clause-works
returns-in_err-object-clause-works g c =
    let stopped = err_from_is_err_and c.from_residual.result c.from_residual.ensures.1 in
    rw (stopped.1, stopped.2) (added_stop _ _ c.args.number c.args.parts _ _ (rw c.as_str.ensures.value at c.in_err-object.ensures.works))

pub returns-in-Ok-clause-works : goal.returns-in-Ok-clause-works
returns-in-Ok-clause-works g c =
    rw c.in-Ok.ensures.more
    (added _ _ c.args.number c.args.parts (module_seen c.args.line.now) c.in_ok-object.object
    (rw c.as_str.ensures.value at c.in_ok-object.ensures.works))

pub returns-in-Err-clause-works : goal.returns-in-Err-clause-works
returns-in-Err-clause-works g c =
    added_short _ _ c.args.number c.args.parts (module_seen c.args.line.now) c.in_ok-object.object
    (rw c.as_str.ensures.value at c.in_ok-object.ensures.works)
