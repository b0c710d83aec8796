-- The chip goes on asking through the steps before its vector's high byte.
use Rattle.std.proofs.Common.{true, false, refl, ◌∙◌}
use Rattle.std.specs.Prelude.{Some, None}
use Rattle.f8_machine.proofs.Counting.{counts_both}
use Rattle.f8_machine.proofs.RequestAnswers.{asking_stays}
use Rattle.f8_machine.proofs.interrupt.acknowledge.Goals as goal

pub sure_step-requires-3-clause-chosen : goal.sure_step-requires-3-clause-chosen
sure_step-requires-3-clause-chosen g c = λ acknowledges.
    asking_stays (Some c.args.socket) 0x1C false None c.sure_step-2.result _ _ refl refl
    c.sure_step-2.ensures.served.settled
    (asking_stays (Some c.args.socket) 0x10 true None c.sure_step.result _ _ refl refl
    c.sure_step.ensures.served.settled c.requires.asks)

pub sure_step-requires-4-clause-chosen : goal.sure_step-requires-4-clause-chosen
sure_step-requires-4-clause-chosen g c = λ acknowledges.
    asking_stays (Some c.args.socket) 0x0F true (Some c.args.socket) c.sure_step-3.result _ _ refl refl
    c.sure_step-3.ensures.served.settled
    (asking_stays (Some c.args.socket) 0x1C false None c.sure_step-2.result _ _ refl refl
    c.sure_step-2.ensures.served.settled
    (asking_stays (Some c.args.socket) 0x10 true None c.sure_step.result _ _ refl refl
    c.sure_step.ensures.served.settled c.requires.asks))

pub returns-clause-acknowledged : goal.returns-clause-acknowledged
returns-clause-acknowledged g c = record {
  freed = record { probe = c.sure_step.new.bus.probe; states = _; steps = c.sure_step.new.steps };
  idled = record { probe = c.sure_step-2.new.bus.probe; states = _; steps = c.sure_step-2.new.steps };
  lowered = record { probe = c.sure_step-3.new.bus.probe; states = _; steps = c.sure_step-3.new.steps };
  freed_byte = c.sure_step.result;
  idled_byte = c.sure_step-2.result;
  low = c.sure_step-3.result;
  high = c.sure_step-4.result;
  is_byte = c.sure_step-4.type_inv;
  first = c.sure_step.ensures.served;
  second = c.sure_step-2.ensures.served;
  third = c.sure_step-3.ensures.served;
  fourth = c.sure_step-4.ensures.served;
}

pub returns-clause-counted : goal.returns-clause-counted
returns-clause-counted g c =
    let one = c.sure_step.ensures.chips in
    let two = c.sure_step-2.ensures.chips ∙ one in
    let three = c.sure_step-3.ensures.chips ∙ two in
    counts_both _ _ _ _ _ three
    (counts_both _ _ _ _ _ two
    (counts_both _ _ _ _ _ one c.sure_step.ensures.counted c.sure_step-2.ensures.counted) c.sure_step-3.ensures.counted)
    c.sure_step-4.ensures.counted
