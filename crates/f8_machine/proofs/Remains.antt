-- A turn of the loop over the bus steps of an instruction: what is left of it, with the processor.
use Rattle.std.proofs.Common.{◌≡◌, ℕ, ◌+◌, ◌<◌, Bool, List, [], ◌∷◌, ◌++◌, map, length, drop, get_or}
use Rattle.std.proofs.Common.{Option, Some, None, sym, ap, ◌∙◌, subst}
use Rattle.std.proofs.lemmas.List.{drop_more, map-append}
use Rattle.f8_spec.specs.BusCodes.{driver_of}
use Rattle.f8_spec.specs.ChipState.{ChipView, ChipState}
use Rattle.f8_spec.specs.Instructions.{decoded, row_of, step_clocks}
use Rattle.f8_spec.specs.MicroSteps.{Step as MicroStep, steps_before_fetch, last_fetch}
use Rattle.f8_spec.specs.declared.instructions.Row.{Row}
use Rattle.f8_spec.specs.declared.instructions.Op.{Op}
use Rattle.console_spec.specs.Processor.{Inputs, Registers, byte_of, is_taken}
use Rattle.console_spec.specs.BusTrace.{TracedStep, traced, ending_steps}
use Rattle.console_spec.specs.Run.{Position}
use Rattle.cpu3850.specs.declared.steps.Step.{Step}
use Rattle.cpu3850.specs.CpuSteps.{CpuState, bus_step, driven, taken}
use Rattle.f8_machine.specs.Carrying.{planned_before_as, planned_before}
use Rattle.cpu3850.specs.Reaching.{Reaches, Places, is_placed_by}
use Rattle.probe.specs.ProbeState.{ProbeState, probe_after}
use Rattle.data_bus.specs.Racks.{views}
use Rattle.data_bus.specs.declared.fault.BusFault.{BusFault}
use Rattle.f8_machine.specs.BusSteps.{IsPlain, IsServed, IsServedBy, IsRefused, heard_served}
use Rattle.f8_machine.specs.Faults.{fault_of}
use Rattle.f8_machine.specs.Rounds.{heard_of}
use Rattle.f8_machine.specs.declared.heard.Heard.{Heard}
use Rattle.f8_machine.proofs.Along.{Aim, Along}
use Rattle.f8_machine.proofs.Rows.{plain_before}
use Rattle.f8_machine.proofs.Slots.{views_settled}
use Rattle.f8_machine.proofs.StepTests.{ArePlain, plain_by}
use Rattle.f8_machine.proofs.Turns.{chips_after_step, along-stops, along-byte, along-more}

-- ---- codes of the plan

plain_before_as : (found : Option Op) (m : Registers) → ArePlain (planned_before_as found m)
plain_before_as None m = tt
plain_before_as (Some op) m =
    plain_by (steps_before_fetch (row_of op) (is_taken op m)) (plain_before (row_of op) (is_taken op m))

-- no instruction acknowledges an interrupt before its end
pub planned_before_plain : (cpu : CpuState) → ArePlain (planned_before cpu)
planned_before_plain cpu = plain_before_as (decoded cpu.opcode) cpu.registers

pub split_plan : (plan : List Step) (index : ℕ) (step : Step) → index < length plan → step ≡ get_or plan index step →
    drop index plan ≡ step ∷ drop (index + 1) plan
split_plan plan index step within here = drop_more plan index step within
    ∙ ap (λ (s : Step). s ∷ drop (index + 1) plan) (sym here)

-- ---- a step of the bus, as the definitions have it

-- what is left on the bus, with what was told so far
pub record OnBus (i : Inputs) (x : Position) (aim : Aim) (rest : List MicroStep) (probe : ProbeState)
    (states : List ChipState) (steps : List Heard) : Type 0 where
  pub so_far : List TracedStep
  pub recorded : steps ≡ map heard_of so_far
  pub along : Along i x aim rest probe (views states) so_far

module _ (i : Inputs) (x : Position) (aim : Aim) (s : MicroStep) (rest : List MicroStep) (probe : ProbeState)
    (states : List ChipState) (steps : List Heard) where
  -- the byte of a served step
  pub bus_byte_is : OnBus i x aim (s ∷ rest) probe states steps → IsPlain s.romc →
      (placed byte : ℕ) (probe_now : ProbeState) (states_now : List ChipState) (steps_now : List Heard) →
      Places (is_placed_by (driver_of s.romc)) placed (byte_of i s.source) →
      IsServed (bus_step s) placed probe probe_now states states_now steps steps_now byte → byte ≡ byte_of i s.source
  bus_byte_is left plain placed byte probe_now states_now steps_now places served =
      served.driven ∙ along-byte i x aim s rest probe
      (views states) left.so_far left.along plain placed served.socket places served.ruling

  -- the step joins those told
  pub on_bus_by : (left : OnBus i x aim (s ∷ rest) probe states steps) → (first : Option ℕ) (placed byte : ℕ)
      (probe_now : ProbeState) (states_now : List ChipState) (steps_now : List Heard) → byte ≡ byte_of i s.source →
      (served : IsServedBy first (bus_step s) placed probe probe_now states states_now steps steps_now byte) →
      Along i x aim rest (probe_after s.romc (byte_of i s.source) probe) (views states_now)
      (left.so_far ++ traced i s served.socket ∷ []) →
      OnBus i x aim rest probe_now states_now steps_now
  on_bus_by left first placed byte probe_now states_now steps_now same served along =
      let now_probe : probe_now ≡ probe_after s.romc (byte_of i s.source) probe =
      served.heard ∙ ap (λ (b : ℕ). probe_after s.romc b probe) same in
      record {
        so_far = left.so_far ++ traced i s served.socket ∷ [];
        recorded = served.recorded
            ∙ ap (λ (l : List Heard). l ++ heard_served (bus_step s) byte served.socket ∷ []) left.recorded
            ∙ ap (λ (b : ℕ). map heard_of left.so_far ++ heard_served (bus_step s) b served.socket ∷ []) same
            ∙ sym (map-append heard_of left.so_far (traced i s served.socket ∷ []));
        along = subst (λ (p : ProbeState). Along i x aim rest p (views states_now)
            (left.so_far ++ traced i s served.socket ∷ [])) (sym now_probe) along;
      }

  more_by : OnBus i x aim (s ∷ rest) probe states steps → IsPlain s.romc →
      (placed byte : ℕ) (probe_now : ProbeState) (states_now : List ChipState) (steps_now : List Heard) →
      byte ≡ byte_of i s.source → IsServed (bus_step s) placed probe probe_now states states_now steps steps_now byte →
      OnBus i x aim rest probe_now states_now steps_now
  more_by left plain placed byte probe_now states_now steps_now same served =
      let vs = views states in
      let moved = along-more i x aim s rest probe vs left.so_far left.along plain served.socket served.ruling in
      let now_views : views states_now ≡ chips_after_step s (byte_of i s.source) (step_clocks s.long) vs =
      views_settled s.romc s.long byte states states_now served.settled
      ∙ ap (λ (b : ℕ). chips_after_step s b (step_clocks s.long) vs) same in
      on_bus_by left None placed byte probe_now states_now steps_now same served
      (subst (λ (ws : List ChipView). Along i x aim rest (probe_after s.romc (byte_of i s.source) probe) ws
      (left.so_far ++ traced i s served.socket ∷ [])) (sym now_views) moved)

  -- a step that is served
  pub on_bus_more : OnBus i x aim (s ∷ rest) probe states steps → IsPlain s.romc →
      (placed byte : ℕ) (probe_now : ProbeState) (states_now : List ChipState) (steps_now : List Heard) →
      Places (is_placed_by (driver_of s.romc)) placed (byte_of i s.source) →
      IsServed (bus_step s) placed probe probe_now states states_now steps steps_now byte →
      OnBus i x aim rest probe_now states_now steps_now
  on_bus_more left plain placed byte probe_now states_now steps_now places served =
      more_by left plain placed byte probe_now states_now steps_now
      (bus_byte_is left plain placed byte probe_now states_now steps_now places served) served

  -- a step that is not
  pub record Refused (fault : BusFault) (steps_now : List Heard) : Type 0 where
    pub so_far : List TracedStep
    pub recorded : steps_now ≡ map heard_of so_far
    pub fault_is : aim.fault ≡ Some (fault_of fault)
    pub course_is : aim.course ≡ record { steps = so_far; fault = Some (fault_of fault, s.long) }

  pub on_bus_stops : OnBus i x aim (s ∷ rest) probe states steps →
      (fault : BusFault) (probe_now : ProbeState) (states_now : List ChipState) (steps_now : List Heard) →
      IsRefused (bus_step s) fault probe probe_now states states_now steps steps_now → Refused fault steps_now
  on_bus_stops left fault probe_now states_now steps_now refused =
      let stops = along-stops i x aim s rest probe (views states) left.so_far left.along
      (fault_of fault) refused.ruling in
      record {
        so_far = left.so_far;
        recorded = refused.recorded ∙ left.recorded;
        fault_is = stops.fault_is;
        course_is = stops.course_is;
      }

-- ---- the loop over the steps before the end

-- what is left of these steps, with those at the end behind them
pub record Remaining (row : Row) (x : Position) (i : Inputs) (aim : Aim) (end : CpuState) (plan : List Step)
    (index : ℕ) (cpu : CpuState) (probe : ProbeState) (states : List ChipState) (steps : List Heard) : Type 0 where
  pub rest : List MicroStep
  pub planned_are : map bus_step rest ≡ drop index plan
  pub bus : OnBus i x aim (rest ++ ending_steps row i.chosen) probe states steps
  pub reaches : Reaches i index (rest ++ last_fetch row ∷ []) cpu end

-- the step that comes next
pub record Next (row : Row) (i : Inputs) (x : Position) (aim : Aim) (end : CpuState) (plan : List Step) (step : Step)
    (index : ℕ) (cpu : CpuState) (probe : ProbeState) (states : List ChipState) (steps : List Heard) : Type 0 where
  pub micro : MicroStep
  pub rest : List MicroStep
  pub micro_is : bus_step micro ≡ step
  pub rest_is : map bus_step rest ≡ drop (index + 1) plan
  pub bus : OnBus i x aim (micro ∷ rest ++ ending_steps row i.chosen) probe states steps
  pub reaches : Reaches i index (micro ∷ rest ++ last_fetch row ∷ []) cpu end

module _ (row : Row) (x : Position) (i : Inputs) (aim : Aim) (end : CpuState) (plan : List Step) (step : Step)
    (index : ℕ) (cpu : CpuState) (probe : ProbeState) (states : List ChipState) (steps : List Heard) where
  next_from : (rest : List MicroStep) → map bus_step rest ≡ step ∷ drop (index + 1) plan →
      OnBus i x aim (rest ++ ending_steps row i.chosen) probe states steps →
      Reaches i index (rest ++ last_fetch row ∷ []) cpu end →
      Next row i x aim end plan step index cpu probe states steps
  next_from [] e bus reaches = cc
  next_from (s ∷ rest) e bus reaches = record {
    micro = s;
    rest = rest;
    micro_is = cc;
    rest_is = cc;
    bus = bus;
    reaches = reaches;
  }

  next_of : index < length plan → step ≡ get_or plan index step →
      Remaining row x i aim end plan index cpu probe states steps →
      Next row i x aim end plan step index cpu probe states steps
  next_of within here remaining = next_from remaining.rest
      (remaining.planned_are ∙ split_plan plan index step within here) remaining.bus remaining.reaches

  -- a turn
  pub remaining_more : (placed byte : ℕ) (cpu_now : CpuState) (probe_now : ProbeState) (states_now : List ChipState)
      (steps_now : List Heard) → IsPlain step.romc →
      index < length plan → step ≡ get_or plan index step → placed ≡ driven index cpu → cpu_now ≡ taken index byte cpu →
      IsServed step placed probe probe_now states states_now steps steps_now byte →
      Remaining row x i aim end plan index cpu probe states steps →
      Remaining row x i aim end plan (index + 1) cpu_now probe_now states_now steps_now
  remaining_more placed byte cpu_now probe_now states_now steps_now plain within here places takes served remaining =
      let n = next_of within here remaining in
      let ending : List MicroStep = n.rest ++ ending_steps row i.chosen in
      let plain_there : IsPlain n.micro.romc = subst (λ (t : Step). IsPlain t.romc) (sym n.micro_is) plain in
      let served_there : IsServed (bus_step n.micro) placed probe probe_now states states_now steps steps_now byte =
      subst (λ (t : Step). IsServed t placed probe probe_now states states_now steps steps_now byte)
      (sym n.micro_is) served in
      let placed_there : Places (is_placed_by (driver_of n.micro.romc)) placed (byte_of i n.micro.source) =
      subst (λ (b : ℕ). Places (is_placed_by (driver_of n.micro.romc)) b (byte_of i n.micro.source))
      (sym places) n.reaches.0 in
      let same = bus_byte_is i x aim n.micro ending probe states steps n.bus plain_there placed byte probe_now
      states_now steps_now placed_there served_there in
      record {
        rest = n.rest;
        planned_are = n.rest_is;
        bus = on_bus_more i x aim n.micro ending probe states steps n.bus plain_there placed byte probe_now states_now
            steps_now placed_there served_there;
        reaches = subst (λ (k : CpuState). Reaches i (index + 1) (n.rest ++ last_fetch row ∷ []) k end)
            (sym (takes ∙ ap (λ (b : ℕ). taken index b cpu) same)) n.reaches.1;
      }

  -- a step that is not served
  pub record StoppedAt (fault : BusFault) (long : Bool) (steps_now : List Heard) : Type 0 where
    pub so_far : List TracedStep
    pub recorded : steps_now ≡ map heard_of so_far
    pub fault_is : aim.fault ≡ Some (fault_of fault)
    pub course_is : aim.course ≡ record { steps = so_far; fault = Some (fault_of fault, long) }

  pub remaining_stops : (fault : BusFault) (probe_now : ProbeState) (states_now : List ChipState)
      (steps_now : List Heard) →
      index < length plan → step ≡ get_or plan index step →
      IsRefused step fault probe probe_now states states_now steps steps_now →
      Remaining row x i aim end plan index cpu probe states steps → StoppedAt fault step.long steps_now
  remaining_stops fault probe_now states_now steps_now within here refused remaining =
      let n = next_of within here remaining in
      let refused_there : IsRefused (bus_step n.micro) fault probe probe_now states states_now steps steps_now =
      subst (λ (t : Step). IsRefused t fault probe probe_now states states_now steps steps_now)
      (sym n.micro_is) refused in
      let stops = on_bus_stops i x aim n.micro (n.rest ++ ending_steps row i.chosen) probe states steps n.bus fault
      probe_now states_now steps_now refused_there in
      record {
        so_far = stops.so_far;
        recorded = stops.recorded;
        fault_is = stops.fault_is;
        course_is = stops.course_is ∙ ap (λ (t : Step). record {
          steps = stops.so_far;
          fault = Some (fault_of fault, t.long);
        }) n.micro_is;
      }
