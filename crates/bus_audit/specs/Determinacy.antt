-- The law of determinacy: a trace leaves no choice to a free run but for key bytes that were not read and pulses that were not taken.
use Rattle.std.specs.Prelude.{◌≡◌, ◌↔◌, ℕ, ◌<◌, false, List, [], ◌∷◌, ◌++◌, map, slice_index, Option, Some}
use Rattle.f8_spec.specs.BusArbitration.{Seat}
use Rattle.f8_spec.specs.ChipState.{admits_pulses}
use Rattle.console_spec.specs.BusTrace.{TracedStep}
use Rattle.console_spec.specs.InterruptChoice.{control_of, seat_vector}
use Rattle.console_spec.specs.InterruptRequests.{Mark, has_request, last_load, last_write_time}
use Rattle.console_spec.specs.Processor.{history_of}
use Rattle.console_spec.specs.Run.{Position}
use Rattle.console_spec.specs.Writes.{latch_of}
use Rattle.bus_audit.specs.PlainSteps.{HaveBytes, plain}
use Rattle.bus_audit.specs.declared.step.TraceStep.{TraceStep}
use Rattle.bus_audit.specs.FreeRuns.{Setup, IsFreelyAt, IsRecord}
use Rattle.bus_audit.specs.DictatedRuns.{IsDictatedAt, dictated}

-- ---- positions

-- the position with other key bytes and other pulses so far
abbrev pub with_free : List ℕ → List Mark → Position → Position
with_free keys pulses x = record x { flat = record x.flat { state = record x.flat.state { keys = keys; pulses = pulses } } }

-- A second position is the first but for key bytes and pulses, and the key bytes of ports 0 and 1 are the same too.
pub record DiffersInInputs (y z : Position) : Type 0 where
  pub same : z ≡ with_free z.flat.state.keys z.flat.state.pulses y
  pub own_keys : (port : ℕ) → port < 2 → slice_index z.flat.state.keys port ≡ slice_index y.flat.state.keys port

-- What that says, one thing after another. A timer goes by its last load and the time of that, and a chip whose control doesn't let pulses in
-- can have a request of its timer alone.
pub record AgreesBesideInputs (y z : Position) : Type 0 where
  pub registers : z.flat.state.registers ≡ y.flat.state.registers
  pub counters : z.flat.state.flow ≡ y.flat.state.flow
  pub copies : z.copies ≡ y.copies
  pub bytes : z.flat.memory ≡ y.flat.memory
  pub instructions : z.flat.state.count ≡ y.flat.state.count
  pub clocks : z.flat.state.phi ≡ y.flat.state.phi
  pub latches : (port : ℕ) → latch_of port z.flat.state.writes ≡ latch_of port y.flat.state.writes
  pub controls : (ports : Option ℕ) → control_of ports z.flat.state.writes ≡ control_of ports y.flat.state.writes
  pub vectors : (seat : Seat) → seat_vector seat z.flat.state.writes ≡ seat_vector seat y.flat.state.writes
  pub loads : (port : ℕ) → last_load port z.flat.state.writes ≡ last_load port y.flat.state.writes
  pub load_times : (port : ℕ) → last_write_time port z.flat.state.writes ≡ last_write_time port y.flat.state.writes
  pub timer_requests : (first socket time : ℕ) → admits_pulses (control_of (Some first) y.flat.state.writes) ≡ false →
      has_request first socket (history_of z.flat.state) time ≡ has_request first socket (history_of y.flat.state) time

-- ---- the law

pub record DeterminacyLaw : Type 0 where
  -- Where the record of a free run up to the end of reset or of an instruction is what stands first in the trace, the dictated run has done
  -- as many instructions with the same steps, and is there but for inputs.
  pub determined : (setup : Setup) (n : ℕ) (y : Position) (steps : List TracedStep) (trace rest : List TraceStep) → HaveBytes trace →
      IsFreelyAt setup n y steps → map plain steps ++ rest ≡ trace →
      (z : Position) × IsDictatedAt setup trace n z rest × DiffersInInputs y z
  pub agrees : (y z : Position) → DiffersInInputs y z → AgreesBesideInputs y z
  -- The dictated run does so many instructions and leaves nothing of a trace that has a step, where that is the whole record of some free run
  -- with so many, and nowhere else.
  pub exact : (setup : Setup) (n : ℕ) (s : TraceStep) (later : List TraceStep) → HaveBytes (s ∷ later) →
      (dictated setup (s ∷ later) ≡ record { count = n; rest = [] }) ↔ IsRecord setup n (s ∷ later)
