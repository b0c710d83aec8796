-- What an abstract state at a point stands for: positions of the flat machine with the copies of the chips, between two instructions.
use Rattle.std.specs.Prelude.{◌≡◌, ℕ, ◌/◌, ◌%◌, Bool, true, false, map, Option, Some, is_some}
use Rattle.std.specs.List.{AllByRecursion}
use Rattle.f8_spec.specs.Flags.{Status}
use Rattle.f8_spec.specs.declared.chips.ChipKind.{ChipKind}
use Rattle.f8_spec.specs.declared.chips.ChipKind.TheVariants.{Psu, Smi, Pio}
use Rattle.console_spec.specs.Processor.{Flow, Registers}
use Rattle.console_spec.specs.CounterCopies.{Copy}
use Rattle.console_spec.specs.Run.{Position}
use Rattle.abs_domain.specs.Lattice.{Below}
use Rattle.abs_domain.specs.AbstractState.{KnownStatus, KnownRegisters, KnownCounters, RegistersBelow}
use Rattle.abs_step.specs.Successors.{Invariant}

-- ---- registers: a concrete state is one of which all is known, and what stands for it is what says no more

abbrev pub whole_status : Status → KnownStatus
whole_status w = record {
  sign = Some w.sign;
  carry = Some w.carry;
  zero = Some w.zero;
  overflow = Some w.overflow;
  icb = Some w.icb;
}

abbrev pub whole_registers : Registers → KnownRegisters
whole_registers m = record {
  accumulator = Some m.accumulator;
  high = Some (m.isar / 8);
  low = Some (m.isar % 8);
  status = whole_status m.status;
  scratchpad = map Some m.scratchpad;
}

-- ---- counters

-- a fact that is stated holds
abbrev pub Holds : Bool → Type 0 → Type 0
Holds false P = Unit {0}
Holds true P = P

-- the flat machine's own
pub record DataTells (k : KnownCounters) (r : Flow) : Type 0 where
  pub d0 : Below (Some r.d0) k.d0
  pub d1 : Below (Some r.d1) k.d1

-- those of a 3851, beside the flat machine's
pub record PsuTells (k : KnownCounters) (r c : Flow) : Type 0 where
  pub value : Below (Some c.d0) k.c
  pub first : Holds k.p0 (c.d0 ≡ r.d0)
  pub second : Holds k.p1 (c.d0 ≡ r.d1)

-- and those of a 3853
pub record SmiTells (k : KnownCounters) (r c : Flow) : Type 0 where
  pub first : Holds k.s0 (c.d0 ≡ r.d0)
  pub second : Holds k.s1 (c.d1 ≡ r.d1)

-- A 3861 has none: nothing is told of the set that its copy keeps.
abbrev pub ChipTells : ChipKind → KnownCounters → Flow → Flow → Type 0
ChipTells Psu k r c = PsuTells k r c
ChipTells Smi k r c = SmiTells k r c
ChipTells Pio k r c = Unit {0}

-- A chip's copy of the program counter is the flat machine's, and its copy of the stack register is where the return is set.
pub record CopyTells (ret : Option ℕ) (k : KnownCounters) (r : Flow) (c : Copy) : Type 0 where
  pub at : c.flow.p ≡ r.p
  pub back : Holds (is_some ret) (c.flow.p1 ≡ r.p1)
  pub chip : ChipTells c.seat.kind k r c.flow

-- ---- positions

-- The values of tracked registers in the point are what the state knows of them, so that they say nothing more.
pub record StandsFor (x : Invariant) (here : Position) : Type 0 where
  pub at : here.flat.state.flow.p ≡ x.point.at
  pub ret : Below (Some here.flat.state.flow.p1) x.point.ret
  pub registers : RegistersBelow (whole_registers here.flat.state.registers) x.state.registers
  pub counters : DataTells x.state.counters here.flat.state.flow
  pub copies : AllByRecursion (CopyTells x.point.ret x.state.counters here.flat.state.flow) here.copies
