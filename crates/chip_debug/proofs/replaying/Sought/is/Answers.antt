-- A store at the address is looked for.
use Rattle.std.proofs.Common.{◌≡◌, rules, tests}
use Rattle.std.specs.List.{list_any}
use Rattle.std.proofs.lemmas.Iterator.{YieldsList-from_slice}
use Rattle.std.proofs.lemmas.Iterator.Search.{any_from_yields_List}
use Rattle.chip_debug.specs.Stepping.{is_store}
use Rattle.chip_debug.proofs.replaying.Sought.is.Goals as goal

pub returns-then-at-wanted-clause-is : goal.returns-then-at-wanted-clause-is
returns-then-at-wanted-clause-is g c =
    let stores : c.any.result ≡ list_any is_store c.args.steps.now =
    any_from_yields_List is_store _ _ c.any.result c.any.ensures.ran (YieldsList-from_slice c.args.steps.now cc)
    (λ x b q k. search (rules, tests)) in
    search (rules, tests)
