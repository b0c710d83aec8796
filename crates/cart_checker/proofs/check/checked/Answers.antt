-- The verdict on what is found is right, and has what shows it.
use Rattle.abs_step.specs.MapView.{view_of}
use Rattle.cart_checker.specs.Verdicts.{IsVerdictIn, CarriesIn}
use Rattle.cart_checker.specs.WorkView.{map_analysis, IsVerdictOn}
use Rattle.cart_checker.proofs.Endings.{is_right, carries_it, if_ok}
use Rattle.cart_checker.proofs.check.checked.Goals as goal

pub returns-clause-verdict : goal.returns-clause-verdict
returns-clause-verdict c =
    if_ok (IsVerdictOn (view_of c.args.map.now) c.search.result) (IsVerdictIn (map_analysis c.args.map.now c.args.split.now))
    c.verdict_on.result
    (λ verdict on. is_right c.args.map.now c.args.split.now c.requires.laws c.search.result verdict c.search.ensures.least
    c.search.ensures.halt on)
    c.verdict_on.ensures.verdict

pub returns-clause-carries : goal.returns-clause-carries
returns-clause-carries c =
    if_ok (IsVerdictOn (view_of c.args.map.now) c.search.result) (CarriesIn (map_analysis c.args.map.now c.args.split.now))
    c.verdict_on.result
    (λ verdict on. carries_it c.args.map.now c.args.split.now c.requires.laws c.search.result verdict c.search.ensures.least
    c.search.ensures.halt on)
    c.verdict_on.ensures.verdict
