-- The two chains are compared as their lists are.
use Rattle.std.proofs.Common.{◌≡◌, ap, ◌∙◌, refl, rules}
use Rattle.std.specs.Ordering.{is_lt, nat_cmp}
use Rattle.std.proofs.lemmas.Iterator.{YieldsList-from_map, YieldsList-from_slice}
use Rattle.std.proofs.lemmas.Iterator.Search.{cmp_from_yields_List}
use Rattle.case_text.specs.CasesText.{capital}
use Rattle.case_text.proofs.read.is_text_behind.Goals as goal

pub returns : goal.returns
returns c =
    c.is_lt.ensures ∙ ap is_lt (cmp_from_yields_List (λ x y. y ≡ x) _ nat_cmp _ c.cmp.ensures.ran
    (YieldsList-from_map _ capital (YieldsList-from_slice c.args.before.now cc) (cc) (λ x r q. search rules))
    (λ it e. YieldsList-from_map _ capital (YieldsList-from_slice c.args.line.now cc) (cc) (λ x r q. search rules)) (λ x y. refl))
