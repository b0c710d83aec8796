-- A turn puts the line of the next step; where that fails, a first part of all lines was put.
use Rattle.std.proofs.Common.{◌≡◌, ◌∙◌}
use Rattle.std.proofs.lemmas.Result.{err_from_is_err_and}
use Rattle.console_spec.specs.RunText.{bus_line}
use Rattle.f8_machine.specs.HeardSteps.{step_of}
use Rattle.rack_run.proofs.PutLaws.{so_far_more, so_far_all, so_far_cut, bus_some}
use Rattle.rack_run.proofs.TellingTexts.{steps_more, steps_all}
use Rattle.rack_run.proofs.telling.put_steps.Goals as goal

pub loop-step-preserved : goal.loop-step-preserved
loop-step-preserved g c =
    let line : c.as_bytes.result.now ≡ bus_line (step_of c.step-item.result) =
    c.as_bytes.ensures.value ∙ c.bus_line.ensures in
    let begins =
    steps_more c.args.steps.now c.loop-step.step-index c.step-item.result c.loop-step-test.true c.step-item.is in
    let lines = rw line at c.in_ok-put.ensures.ok in
    record { so_far = so_far_more _ _ _ _ _ _ _ c.loop-step.invariant.so_far begins lines }

pub returns : goal.returns
returns g c =
    so_far_all _ _ _ _ _ c.loop-step.invariant.so_far
    (steps_all c.args.steps.now c.loop-step.step-index c.loop-step-test.false)

pub returns-in_err-put : goal.returns-in_err-put
returns-in_err-put g c =
    let p = err_from_is_err_and c.from_residual.result c.from_residual.ensures.1 in
    let line : c.as_bytes.result.now ≡ bus_line (step_of c.step-item.result) =
    c.as_bytes.ensures.value ∙ c.bus_line.ensures in
    let begins =
    steps_more c.args.steps.now c.loop-step.step-index c.step-item.result c.loop-step-test.true c.step-item.is in
    rw p.1
    (so_far_cut _ _ _ _ _ _ _ _ c.loop-step.invariant.so_far begins (bus_some _)
    (rw line at c.in_err-put.ensures.err))
