-- Where steps are not told, nothing is put.
use Rattle.std.proofs.Common.{map, sym, ◌∙◌}
use Rattle.console_spec.specs.Telling.{Traced}
use Rattle.f8_machine.specs.HeardSteps.{step_of}
use Rattle.rack_run.proofs.PutLaws.{puts_traced, puts_untraced}
use Rattle.rack_run.proofs.telling.tell_steps.Goals as goal

pub returns-then-not-is_traced : goal.returns-then-not-is_traced
returns-then-not-is_traced g c =
    puts_untraced _ _ c.args.detail (map (λ h. Traced (step_of h)) c.args.steps.now)
    (sym c.is_traced.ensures ∙ c.if-not-is_traced.true)

pub returns : goal.returns
returns g c =
    puts_traced _ _ _ c.args.detail (map (λ h. Traced (step_of h)) c.args.steps.now)
    (sym c.is_traced.ensures ∙ c.if-not-is_traced.false) c.put_steps.ensures
