use Rattle.std.proofs.Common.{rules, tests}
use Rattle.std.proofs.lemmas.Iterator.{YieldsList-from_slice}
use Rattle.std.proofs.lemmas.Iterator.Search.{all_from_yields_List}
use Rattle.cartridge.specs.Pages.{lie_apart}
use Rattle.cartridge.proofs.page_run.PageRun.lies_apart_from_all.Goals as goal

pub returns : goal.returns
returns c =
    all_from_yields_List (lie_apart c.args.self) _ _ _ c.all.ensures.ran (YieldsList-from_slice c.args.others.now cc) (λ x b q k. search (rules, tests))
