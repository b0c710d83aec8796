-- Each step of reset leads on, or is not served.
use Rattle.std.proofs.Common.{[], ◌∷◌, refl, sym, ◌∙◌}
use Rattle.f8_spec.specs.MicroSteps.{Opcode, NoByte, short_step, long_step}
use Rattle.f8_machine.proofs.Counting.{counts_both, counts_if_ok, tried_on_err}
use Rattle.f8_machine.proofs.RackLaws.{rack_runs_nothing}
use Rattle.f8_machine.proofs.Resets.{reset_first, reset_more, reset_last, reset_stops, if_ok, on_err_both, rack_served}
use Rattle.f8_machine.proofs.Resets.{rack_ran}
use Rattle.f8_machine.proofs.reset.fetch_first.Goals as goal

pub returns-clause-fetched : goal.returns-clause-fetched
returns-clause-fetched g c = λ x at.
    let first = rw (sym c.requires.none) at (reset_first x c.args.bus.now.probe _ at) in
    let second = reset_more x (short_step 0x1C NoByte)
    (long_step 0x08 NoByte ∷ short_step 0x00 Opcode ∷ []) refl _ _ _ _ _ _ _ refl c.in_ok-quiet_step.ensures.served first
    in
    let third = reset_more x (long_step 0x08 NoByte)
    (short_step 0x00 Opcode ∷ []) refl _ _ _ _ _ _ _ refl c.in_ok-quiet_step-2.ensures.served second in
    if_ok _ _ c.quiet_step-3.result (λ byte served. reset_last x _ _ _ _ _ _ byte served third)
    c.quiet_step-3.ensures.served

pub returns-clause-cut : goal.returns-clause-cut
returns-clause-cut g c = λ x at.
    let first = rw (sym c.requires.none) at (reset_first x c.args.bus.now.probe _ at) in
    let second = reset_more x (short_step 0x1C NoByte)
    (long_step 0x08 NoByte ∷ short_step 0x00 Opcode ∷ []) refl _ _ _ _ _ _ _ refl c.in_ok-quiet_step.ensures.served first
    in
    let third = reset_more x (long_step 0x08 NoByte)
    (short_step 0x00 Opcode ∷ []) refl _ _ _ _ _ _ _ refl c.in_ok-quiet_step-2.ensures.served second in
    on_err_both _ _ _ c.quiet_step-3.result (λ refused long. reset_stops x
    (short_step 0x00 Opcode) [] _ _ _ _ _ _ c.quiet_step-3.new.unserved.fault c.quiet_step-3.new.unserved.long refused long third)
    c.quiet_step-3.ensures.refused c.quiet_step-3.ensures.long

pub returns-clause-ran : goal.returns-clause-ran
returns-clause-ran g c =
    let first = rack_runs_nothing c.args.steps.now _ c.requires.none in
    let second = rack_served _ refl _ _ _ _ _ _ _ _ first c.in_ok-quiet_step.ensures.served in
    let third = rack_served _ refl _ _ _ _ _ _ _ _ second c.in_ok-quiet_step-2.ensures.served in
    rack_ran _ refl c.quiet_step-3.result c.quiet_step-3.new.unserved.fault _ _ _ _ _ _ _ third c.quiet_step-3.ensures.served c.quiet_step-3.ensures.refused

pub returns-clause-counted : goal.returns-clause-counted
returns-clause-counted g c =
    let one = c.in_ok-quiet_step.ensures.chips in
    let two = c.in_ok-quiet_step-2.ensures.chips ∙ one in
    counts_if_ok c.quiet_step-3.result _ _ _ _ _ two
    (counts_both _ _ _ _ _ one c.in_ok-quiet_step.ensures.counted c.in_ok-quiet_step-2.ensures.counted) c.quiet_step-3.ensures.counted

pub returns-clause-tried : goal.returns-clause-tried
returns-clause-tried g c =
    let one = c.in_ok-quiet_step.ensures.chips in
    let two = c.in_ok-quiet_step-2.ensures.chips ∙ one in
    tried_on_err c.quiet_step-3.new.unserved.fault c.quiet_step-3.result _ _ _ _ _ two
    (counts_both _ _ _ _ _ one c.in_ok-quiet_step.ensures.counted c.in_ok-quiet_step-2.ensures.counted) c.quiet_step-3.ensures.tried
