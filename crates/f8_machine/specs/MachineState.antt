-- A machine as contracts see it.
use Rattle.std.specs.Prelude.{ℕ, ◌+◌, ◌%◌, List, [], ◌∷◌}
use Rattle.f8_spec.specs.BusCodes.{Count}
use Rattle.console_spec.specs.Processor.{Flow}
use Rattle.probe.specs.ProbeState.{ProbeState, new_probe, probe_after}
use Rattle.cpu3850.specs.CpuSteps.{CpuState, powered}
use Rattle.data_bus.specs.declared.index.Index.{Index}
use Rattle.f8_machine.specs.declared.flow.Flow.{Flow as KeptFlow}
use Rattle.f8_machine.specs.declared.heard.Heard.{Heard}
use Rattle.f8_machine.specs.declared.outcome.Mode.{Mode}
use Rattle.f8_machine.specs.declared.outcome.Mode.TheVariants.{Powered, Running, Stopped}
use Rattle.f8_machine.specs.declared.outcome.StoppedBy.{StoppedBy}
use Rattle.f8_machine.specs.declared.outcome.StoppedBy.TheVariants.{Fault as ByFault, Reserved as ByOpcode}
use Rattle.f8_machine.specs.declared.outcome.Outcome.{Outcome}
use Rattle.f8_machine.specs.declared.outcome.Outcome.TheVariants.{Done, Fault, Reserved}

abbrev pub flow_of : KeptFlow → Flow
flow_of kept = record { p = kept.p; p1 = kept.p1; d0 = kept.d0; d1 = kept.d1 }

-- the counters before the opcode was fetched
abbrev pub flow_before_fetch : Count → Flow
flow_before_fetch c = record { p = (c.pc0 + 65535) % 65536; p1 = c.pc1; d0 = c.dc0; d1 = c.dc1 }

-- the probe, the processor, the counters of the flat machine as the last instruction left them, the clocks in Φ, the sockets of the
-- chips described, what the machine may do, and the index of the rack's pages
pub record MachineState : Type 0 where
  pub probe : ProbeState
  pub cpu : CpuState
  pub flow : Flow
  pub phi : ℕ
  pub chain : List ℕ
  pub mode : Mode
  pub index : Index

-- the outcome on a machine that was stopped
abbrev pub outcome_again : StoppedBy → Outcome
outcome_again (ByFault fault long) = Fault fault long []
outcome_again (ByOpcode at code) = Reserved at code

-- the served steps of an outcome
abbrev pub steps_in : Outcome → List Heard
steps_in (Done wrote steps) = steps
steps_in (Fault fault long steps) = steps
steps_in (Reserved at code) = []

-- a machine that is stopped, with what the steps tried for it have made of the probe and the index
abbrev pub halted : StoppedBy → ProbeState → Index → MachineState → MachineState
halted why probe index m = record m { probe = probe; index = index; mode = Stopped why }

-- reset has been
abbrev pub IsReset : Mode → Type 0
IsReset Powered = ⊥
IsReset Running = Unit {0}
IsReset (Stopped why) = Unit {0}

-- the probe after the steps of a record
abbrev pub probe_after_steps : List Heard → ProbeState → ProbeState
probe_after_steps [] p = p
probe_after_steps (h ∷ later) p = probe_after_steps later (probe_after h.romc h.byte p)

-- a machine at power-on, with an index of its rack
abbrev pub powered_machine : ℕ → List ℕ → Index → MachineState
powered_machine fill chain index = record {
  probe = new_probe;
  cpu = powered fill;
  flow = record { p = 0; p1 = 0; d0 = 0; d1 = 0 };
  phi = 0;
  chain = chain;
  mode = Powered;
  index = index;
}
