use Rattle.std.proofs.Common.{◌==◌, rules, tests}
use Rattle.std.proofs.lemmas.Iterator.{YieldsList-from_slice}
use Rattle.std.proofs.lemmas.Iterator.Search.{any_from_yields_List}
use Rattle.cart_data.proofs.split.Split.contains.Goals as goal

pub returns : goal.returns
returns c =
    any_from_yields_List (λ other. other == c.args.register) _ _ _ c.any.ensures.ran
    (YieldsList-from_slice c.args.self.now cc) (λ x b q k. search (rules, tests))
