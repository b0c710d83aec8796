-- Some register of the list is blurred.
use Rattle.std.proofs.Common.{rules, tests}
use Rattle.std.specs.List.{list_any}
use Rattle.std.proofs.lemmas.Iterator.{YieldsList-from_slice}
use Rattle.std.proofs.lemmas.Iterator.Search.{any_from_yields_List}
use Rattle.abs_step.specs.Safety.{blurs}
use Rattle.abs_step.specs.WorkView.{writes_view}
use Rattle.abs_step.proofs.hazards.any_blurred.Goals as goal

pub returns : goal.returns
returns c =
    any_from_yields_List (λ number. list_any (λ w. blurs w number) (writes_view c.args.writes)) _ _ _ c.any.ensures.ran
    (YieldsList-from_slice c.args.split.now cc) (λ x b q k. search (rules, tests))
