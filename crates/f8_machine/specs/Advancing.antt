-- What reset and an instruction leave of a machine and its rack, whatever they answer.
use Rattle.std.specs.Prelude.{◌≡◌, ◌+◌, ◌≤◌, List}
use Rattle.f8_spec.specs.ChipState.{ChipState}
use Rattle.f8_ops.specs.declared.table.TheConstants.{MOST_INTERRUPTED_PHI}
use Rattle.console_spec.specs.Run.{Position}
use Rattle.f8_machine.specs.MachineState.{MachineState, IsReset, halted, outcome_again, probe_after_steps, steps_in}
use Rattle.f8_machine.specs.Questions.{codes_of, followed_all}
use Rattle.f8_machine.specs.Refinement.{Represents, Refines}
use Rattle.f8_machine.specs.Rounds.{RackRuns}
use Rattle.f8_machine.specs.declared.outcome.Mode.TheVariants.{Running}
use Rattle.f8_machine.specs.declared.outcome.Outcome.{Outcome}
use Rattle.f8_machine.specs.declared.outcome.Outcome.TheVariants.{Done, Fault, Reserved}
use Rattle.f8_machine.specs.declared.outcome.StoppedBy.{StoppedBy}
use Rattle.f8_machine.specs.declared.outcome.StoppedBy.TheVariants.{Fault as ByFault, Reserved as ByOpcode}

-- The chips and the probe have heard the steps told and nothing else, and the index has followed them; reset has been, and the sockets
-- of the chips described stay.
pub record Follows (result : Outcome) (old new : MachineState) (olds news : List ChipState) : Type 0 where
  pub ran : RackRuns (steps_in result) olds news
  pub reference : new.probe ≡ probe_after_steps (steps_in result) old.probe
  pub mode : IsReset new.mode
  pub index : new.index ≡ followed_all (codes_of (steps_in result)) old.index
  pub chain : new.chain ≡ old.chain

-- An instruction does what the flat machine's next one does, and the clocks go on by no more than those of an instruction with an
-- interrupt at its end.
pub record Advances (result : Outcome) (old new : MachineState) (olds news : List ChipState) : Type 0 where
  pub refines : (x : Position) → Represents old olds x → Refines result old new news x
  pub clocks : new.phi ≤ old.phi + MOST_INTERRUPTED_PHI
  pub onward : old.phi ≤ new.phi

-- What is done leaves the machine running. What isn't stops it with what it tells, and leaves it the registers, the counters of the last
-- instruction that was done and the clocks; the probe and the index are as the served steps left them.
abbrev pub Halts : Outcome → MachineState → MachineState → Type 0
Halts (Done wrote steps) old new = new.mode ≡ Running
Halts (Fault fault long steps) old new = new ≡ halted (ByFault fault long) new.probe new.index old
Halts (Reserved at code) old new = new ≡ halted (ByOpcode at code) old.probe old.index old

-- A machine that was stopped answers the same again, and nothing changes: neither the machine nor what its chips are and have heard.
pub record StaysStopped (why : StoppedBy) (result : Outcome) (old new : MachineState)
    (olds news : List ChipState) : Type 0 where
  pub again : result ≡ outcome_again why
  pub machine : new ≡ old
  pub rack : news ≡ olds
