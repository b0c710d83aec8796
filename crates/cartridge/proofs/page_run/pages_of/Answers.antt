use Rattle.std.proofs.Common.{◌∙◌, arith, ap, length}
use Rattle.cartridge.proofs.PageLists.{whole, few}
use Rattle.cartridge.proofs.page_run.pages_of.Goals as goal

pub returns-clause-pages : goal.returns-clause-pages
returns-clause-pages c = c.from_vec.ensures ∙ whole c.args.runs.now c.loop-number.number c.loop-number.pages.items (omega arith) c.loop-number.invariant

pub returns-clause-few : goal.returns-clause-few
returns-clause-few c =
    let size = few c.args.runs.now c.loop-number.number in
    let held = ap length c.loop-number.invariant in
    let given = ap length c.from_vec.ensures in
    omega (arith, size, held, given)
