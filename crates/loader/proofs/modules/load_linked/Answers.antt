-- The plan is fetched and read, then its modules, and they are linked.
use Rattle.std.proofs.lemmas.Result.{err_from_is_err_and}
use Rattle.loader.proofs.ModulesLoaded.{linked_loaded, linked_unread, linked_without_parts, linked_without_plan}
use Rattle.loader.proofs.modules.load_linked.Goals as goal

pub returns-in_err-text : goal.returns-in_err-text
returns-in_err-text g c =
    let stopped = err_from_is_err_and c.from_residual.result c.from_residual.ensures.1 in
    rw (stopped.1, stopped.2) (linked_without_plan _ _ c.args.plan.now _ c.in_err-text.ensures.works)

pub returns-in_err-modules : goal.returns-in_err-modules
returns-in_err-modules g c =
    let stopped = err_from_is_err_and c.from_residual-in_err-modules.result c.from_residual-in_err-modules.ensures.1 in
    rw (stopped.1, stopped.2)
    (linked_unread _ _ c.args.plan.now _ (λ modules. modules) _ c.in_ok-text.ensures.works
    (rw c.as_slice.ensures.value at c.in_err-modules.ensures))

pub returns-in_err-parts : goal.returns-in_err-parts
returns-in_err-parts g c =
    let stopped = err_from_is_err_and c.from_residual-in_err-parts.result c.from_residual-in_err-parts.ensures.1 in
    rw (stopped.1, stopped.2)
    (linked_without_parts _ _ c.args.plan.now _ _ c.in_ok-text.ensures.works (rw c.as_slice.ensures.value at c.in_ok-modules.ensures) _ _
    c.in_err-parts.ensures.works)

pub returns : goal.returns
returns g c =
    linked_loaded _ _ c.args.plan.now _ _ c.in_ok-text.ensures.works (rw c.as_slice.ensures.value at c.in_ok-modules.ensures) _ _ _
    c.in_ok-parts.ensures.planned c.in_ok-parts.ensures.works c.link_modules.ensures
