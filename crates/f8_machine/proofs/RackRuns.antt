-- The rack and the probe over bus steps that are served, those of an interrupt too.
use Rattle.std.proofs.Common.{◌≡◌, ℕ, List, refl, sym, ap, ◌∙◌, subst}
use Rattle.std.specs.Prelude.{Option, Some, None}
use Rattle.f8_spec.specs.ChipState.{ChipState}
use Rattle.f8_spec.specs.MicroSteps.{VectorHigh, VectorLow, long_step}
use Rattle.cpu3850.specs.declared.steps.Step.{Step}
use Rattle.cpu3850.specs.CpuSteps.{bus_step}
use Rattle.probe.specs.ProbeState.{ProbeState, probe_after}
use Rattle.data_bus.specs.declared.fault.BusFault.{BusFault}
use Rattle.f8_machine.specs.BusSteps.{IsPlain, IsServed, IsServedBy, IsRefused, heard_served}
use Rattle.f8_machine.specs.MachineState.{probe_after_steps}
use Rattle.f8_machine.specs.Rounds.{RackRuns, heard_in}
use Rattle.f8_machine.specs.Vectoring.{Acknowledges, IsAcknowledged}
use Rattle.f8_machine.specs.declared.heard.Heard.{Heard}
use Rattle.f8_machine.proofs.RackLaws.{MarksDriver, plain_marks, rack_runs_more, rack_runs_stays, probe_after_steps-more}
use Rattle.f8_machine.proofs.Slots.{rack_stays_same}

-- the chip that is named drives in the step, so that it is marked
marks_low : (socket byte : ℕ) (driver : Option ℕ) → Some socket ≡ driver →
    MarksDriver (Some socket) (heard_served (bus_step (long_step 0x0F VectorLow)) byte driver)
marks_low socket byte driver same k =
    ap (λ (o : Option ℕ). (heard_in k (heard_served (bus_step (long_step 0x0F VectorLow)) byte o)).first) same

marks_high : (socket byte : ℕ) (driver : Option ℕ) → Some socket ≡ driver →
    MarksDriver (Some socket) (heard_served (bus_step (long_step 0x13 VectorHigh)) byte driver)
marks_high socket byte driver same k =
    ap (λ (o : Option ℕ). (heard_in k (heard_served (bus_step (long_step 0x13 VectorHigh)) byte o)).first) same

module _ (start : ProbeState) (olds : List ChipState) where
  -- since the beginning the rack and the probe have heard these steps and nothing else
  pub record Ran (probe : ProbeState) (states : List ChipState) (steps : List Heard) : Type 0 where
    pub rack : RackRuns steps olds states
    pub reference : probe ≡ probe_after_steps steps start

  -- a step that is served
  pub ran_by : (first : Option ℕ) (step : Step) (placed byte : ℕ) (before after : ProbeState)
      (mids news : List ChipState) (earlier now : List Heard) → Ran before mids earlier →
      (served : IsServedBy first step placed before after mids news earlier now byte) →
      MarksDriver first (heard_served step byte served.socket) → Ran after news now
  ran_by first step placed byte before after mids news earlier now ran served marks = record {
    rack = subst (λ (l : List Heard). RackRuns l olds news) (sym served.recorded)
        (rack_runs_more first 0 earlier (heard_served step byte served.socket) olds mids news marks ran.rack
        served.settled);
    reference = served.heard
        ∙ ap (λ (p : ProbeState). probe_after step.romc byte p) ran.reference
        ∙ sym (probe_after_steps-more earlier (heard_served step byte served.socket) start)
        ∙ ap (λ steps. probe_after_steps steps start) (sym served.recorded);
  }

  pub ran_more : (step : Step) (placed byte : ℕ) (before after : ProbeState) (mids news : List ChipState)
      (earlier now : List Heard) → IsPlain step.romc → Ran before mids earlier →
      IsServed step placed before after mids news earlier now byte → Ran after news now
  ran_more step placed byte before after mids news earlier now plain ran served =
      ran_by None step placed byte before after mids news earlier now ran served
      (plain_marks (heard_served step byte served.socket) plain)

  -- one that is not
  pub ran_still : (step : Step) (fault : BusFault) (before after : ProbeState) (mids news : List ChipState)
      (earlier now : List Heard) → Ran before mids earlier →
      IsRefused step fault before after mids news earlier now → Ran after news now
  ran_still step fault before after mids news earlier now ran refused = record {
    rack = subst (λ (l : List Heard). RackRuns l olds news) (sym refused.recorded)
        (rack_runs_stays earlier olds mids news ran.rack (rack_stays_same mids news refused.stays));
    reference = refused.unheard ∙ ran.reference ∙ ap (λ steps. probe_after_steps steps start) (sym refused.recorded);
  }

  -- those of an acknowledgement
  ran_acknowledged : (socket : ℕ) (before after : ProbeState) (mids news : List ChipState) (earlier now : List Heard) →
      Ran before mids earlier → IsAcknowledged socket before after mids news earlier now → Ran after news now
  ran_acknowledged socket before after mids news earlier now ran is =
      let freed = ran_more _ 0 is.freed_byte before is.freed.probe mids is.freed.states earlier is.freed.steps refl ran
      is.first in
      let idled = ran_more _ 0 is.idled_byte is.freed.probe is.idled.probe is.freed.states is.idled.states
      is.freed.steps is.idled.steps refl freed is.second in
      let lowered = ran_by (Some socket) _ 0 is.low is.idled.probe is.lowered.probe is.idled.states is.lowered.states
      is.idled.steps is.lowered.steps idled is.third
      (marks_low socket is.low is.third.socket (let named = is.third.ruling in cc)) in
      ran_by (Some socket) _ 0 is.high is.lowered.probe after is.lowered.states news is.lowered.steps now lowered
      is.fourth (marks_high socket is.high is.fourth.socket (let named = is.fourth.ruling in cc))

  pub ran_chosen : (chosen : Option ℕ) (before after : ProbeState) (mids news : List ChipState)
      (earlier now : List Heard) → Ran before mids earlier →
      Acknowledges chosen before after mids news earlier now → Ran after news now
  ran_chosen None before after mids news earlier now ran same = record {
    rack = subst (λ (l : List Heard). RackRuns l olds news) (sym same.steps)
        (rack_runs_stays earlier olds mids news ran.rack same.states);
    reference = same.probe ∙ ran.reference ∙ ap (λ steps. probe_after_steps steps start) (sym same.steps);
  }
  ran_chosen (Some socket) before after mids news earlier now ran acknowledged =
      ran_acknowledged socket before after mids news earlier now ran acknowledged
