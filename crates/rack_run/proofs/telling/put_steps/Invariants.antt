-- The lines of the steps so far are put.
use Rattle.std.proofs.Common.{map, drop}
use Rattle.console_spec.specs.Telling.{Traced}
use Rattle.f8_machine.specs.HeardSteps.{step_of}
use Rattle.rack_run.specs.Texts.{text_told}
use Rattle.outside.proofs.SinkLaws.{PutSoFar}
use Rattle.rack_run.proofs.telling.put_steps.Given as goal

abbrev pub invariant-loop-step : goal.invariant-loop-step
invariant-loop-step g l = record {
  so_far : PutSoFar (g.K.Sink.output l.fn.sink) (g.K.Sink.output l.sink)
      (text_told (map (λ h. Traced (step_of h)) l.steps))
      (text_told (map (λ h. Traced (step_of h)) (drop l.step-index l.steps)));
}
