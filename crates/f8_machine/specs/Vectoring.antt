-- The bus steps by which an interrupt is acknowledged, before the fetch at its vector.
use Rattle.std.specs.Prelude.{◌≡◌, ℕ, ◌+◌, ◌-◌, ◌<◌, List, length, sum_by, take, Option, Some, None}
use Rattle.f8_spec.specs.ChipState.{ChipState}
use Rattle.f8_spec.specs.Instructions.{step_clocks, interrupt_clocks}
use Rattle.f8_spec.specs.MicroSteps.{Opcode, NoByte, VectorHigh, VectorLow, short_step, long_step}
use Rattle.cpu3850.specs.declared.steps.Step.{Step}
use Rattle.cpu3850.specs.CpuSteps.{bus_step}
use Rattle.probe.specs.ProbeState.{ProbeState}
use Rattle.f8_machine.specs.BusSteps.{IsServed, IsServedBy}
use Rattle.f8_machine.specs.declared.heard.Heard.{Heard}

-- what stands between two bus steps
pub record Between : Type 0 where
  pub probe : ProbeState
  pub states : List ChipState
  pub steps : List Heard

-- The CPU frees the bus and works by itself, and the chip in a socket gives the two bytes of its vector.
pub record IsAcknowledged (socket : ℕ) (before after : ProbeState) (olds news : List ChipState)
    (earlier now : List Heard) : Type 0 where
  pub freed : Between
  pub idled : Between
  pub lowered : Between
  pub freed_byte : ℕ
  pub idled_byte : ℕ
  pub low : ℕ
  pub high : ℕ
  pub is_byte : high < 256
  pub first : IsServed (bus_step (long_step 0x10 NoByte)) 0 before freed.probe olds freed.states earlier freed.steps
      freed_byte
  pub second : IsServed (bus_step (short_step 0x1C NoByte)) 0 freed.probe idled.probe freed.states idled.states
      freed.steps idled.steps idled_byte
  pub third : IsServedBy (Some socket) (bus_step (long_step 0x0F VectorLow)) 0 idled.probe lowered.probe idled.states
      lowered.states idled.steps lowered.steps low
  pub fourth : IsServedBy (Some socket) (bus_step (long_step 0x13 VectorHigh)) 0 lowered.probe after lowered.states
      news lowered.steps now high

-- nothing happened between
pub record IsUnchanged (before after : ProbeState) (olds news : List ChipState) (earlier now : List Heard) : Type 0 where
  pub probe : after ≡ before
  pub states : news ≡ olds
  pub steps : now ≡ earlier

-- the acknowledgement of the interrupt that is taken, if one is
abbrev pub Acknowledges : Option ℕ → ProbeState → ProbeState → List ChipState → List ChipState → List Heard → List Heard → Type 0
Acknowledges None before after olds news earlier now = IsUnchanged before after olds news earlier now
Acknowledges (Some socket) before after olds news earlier now =
    IsAcknowledged socket before after olds news earlier now

-- the clocks of steps with those of an interrupt in place of the last, or none
abbrev pub clocks_of_plan : Option ℕ → List Step → ℕ
clocks_of_plan None plan = sum_by (λ step. step_clocks step.long) plan
clocks_of_plan (Some socket) plan = sum_by (λ step. step_clocks step.long) (take (length plan - 1) plan) + interrupt_clocks

-- the fetch of the next opcode: the last step of the instruction, or the short one of an interrupt
abbrev pub fetch_by : Option ℕ → Step → Step
fetch_by None last = last
fetch_by (Some socket) last = bus_step (short_step 0x00 Opcode)
