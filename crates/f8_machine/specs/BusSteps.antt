-- One bus step of a machine: what it leaves where it is served, and where it is not.
use Rattle.std.specs.Prelude.{◌≡◌, ℕ, false, ◌==◌, ◌||◌, List, [], ◌∷◌, ◌++◌, Option, Some, None}
use Rattle.f8_spec.specs.ChipState.{ChipState}
use Rattle.f8_spec.specs.BusArbitration.{Served, rule_of, view_ruling, bus_byte}
use Rattle.console_spec.specs.BusTrace.{taker_by, who_by}
use Rattle.console_spec.specs.Services.{fault_by}
use Rattle.probe.specs.ProbeState.{ProbeState, probe_after}
use Rattle.cpu3850.specs.declared.steps.Step.{Step}
use Rattle.data_bus.specs.Racks.{RackSettles, RackStays, named_views}
use Rattle.data_bus.specs.Steps.{probe_place}
use Rattle.data_bus.specs.declared.fault.BusFault.{BusFault}
use Rattle.f8_machine.specs.Faults.{fault_of}
use Rattle.f8_machine.specs.declared.heard.Heard.{Heard}

-- a code of no acknowledgement
abbrev pub IsPlain : ℕ → Type 0
IsPlain romc = (romc == 0x0F || romc == 0x13) ≡ false

-- a served step, as it is told
abbrev pub heard_served : Step → ℕ → Option ℕ → Heard
heard_served step byte socket = record {
  romc = step.romc;
  long = step.long;
  byte = byte;
  who = who_by step.driver socket;
  taker = taker_by (rule_of step.romc) socket;
}

-- Served: one chip answers, or none has to; the byte is the bus rule's, and every chip and the probe hear it. The socket given is that of
-- the chip whose interrupt is acknowledged.
pub record IsServedBy (first : Option ℕ) (step : Step) (placed : ℕ) (before after : ProbeState) (olds news : List ChipState)
    (earlier now : List Heard) (byte : ℕ) : Type 0 where
  pub socket : Option ℕ
  pub ruling : view_ruling step.romc first (probe_place step.romc before) (named_views olds) ≡ Served socket
  pub driven : byte ≡ bus_byte step.romc first placed (named_views olds)
  pub settled : RackSettles step.romc step.long first byte olds news
  pub heard : after ≡ probe_after step.romc byte before
  pub recorded : now ≡ earlier ++ heard_served step byte socket ∷ []

-- not served: the fault is the bus rule's, and nothing changes
pub record IsRefusedBy (first : Option ℕ) (step : Step) (fault : BusFault) (before after : ProbeState) (olds news : List ChipState)
    (earlier now : List Heard) : Type 0 where
  pub ruling : fault_by step.romc (view_ruling step.romc first (probe_place step.romc before) (named_views olds))
      ≡ Some (fault_of fault)
  pub stays : RackStays olds news
  pub unheard : after ≡ before
  pub recorded : now ≡ earlier

-- a step in which no interrupt is acknowledged
abbrev pub IsServed : Step → ℕ → ProbeState → ProbeState → List ChipState → List ChipState → List Heard → List Heard → ℕ → Type 0
IsServed step placed before after olds news earlier now byte =
    IsServedBy None step placed before after olds news earlier now byte

abbrev pub IsRefused : Step → BusFault → ProbeState → ProbeState → List ChipState → List ChipState → List Heard → List Heard → Type 0
IsRefused step fault before after olds news earlier now = IsRefusedBy None step fault before after olds news earlier now
