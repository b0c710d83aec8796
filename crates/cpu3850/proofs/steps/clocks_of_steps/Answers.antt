-- Each of some steps takes 6 Φ at most.
use Rattle.std.proofs.Common.{rules, ◌≡◌, ◌≤◌, ℕ, ◌+◌, ◌*◌, Bool, true, false, List, [], ◌∷◌, length, sum_by, sym, subst, arith}
use Rattle.std.proofs.lemmas.List.Sums.{sum_by-cons}
use Rattle.f8_spec.specs.Instructions.{step_clocks}
use Rattle.cpu3850.specs.declared.steps.Step.{Step}
use Rattle.cpu3850.proofs.steps.clocks_of_steps.Goals as goal

short : (long : Bool) → step_clocks long ≤ 6
short true = omega arith
short false = omega arith

few : (steps : List Step) → sum_by (λ (step : Step). step_clocks step.long) steps ≤ length steps * 6
few [] = omega arith
few (s ∷ later) =
    let split : sum_by (λ (step : Step). step_clocks step.long) (s ∷ later)
    ≡ step_clocks s.long + sum_by (λ (step : Step). step_clocks step.long) later =
    sum_by-cons (λ (step : Step). step_clocks step.long) s later in
    omega (arith, split, short s.long, few later)

pub returns-clause-most : goal.returns-clause-most
returns-clause-most c = subst (λ (n : ℕ). n ≤ length c.args.steps.now * 6) (sym returns-clause-value-here) (few c.args.steps.now)
  where
    returns-clause-value-here : c.sum.result ≡ sum_by (λ (step : Step). step_clocks step.long) c.args.steps.now
    returns-clause-value-here = search rules
