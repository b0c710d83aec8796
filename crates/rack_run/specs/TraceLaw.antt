-- What a trace tells agrees with how the run goes on. The definitions of a run and of its bus steps are apart from each other: a run stops
-- by the accesses of an instruction, and its clocks are those of a table, while a trace goes along the steps.
use Rattle.std.specs.Prelude.{◌≡◌, ℕ, ◌+◌, Bool, List, sum_by, Option, Some, None}
use Rattle.f8_spec.specs.Instructions.{step_clocks}
use Rattle.console_spec.specs.BusTrace.{TracedStep}
use Rattle.console_spec.specs.Run.{Position, Turn, Goes, Stops, Done, Unserved, Reserved, next, turn_course}
use Rattle.console_spec.specs.Run.{reset_course, reset_fault, position_after_reset}
use Rattle.console_spec.specs.Services.{Fault}

-- why the step behind the served ones is not served
abbrev pub fault_in : Option (Fault × Bool) → Option Fault
fault_in None = None
fault_in (Some x) = Some x.0

-- the bus fault by which a turn stops the run
abbrev pub fault_of_turn : Turn → Option Fault
fault_of_turn (Goes y) = None
fault_of_turn (Stops Done) = None
fault_of_turn (Stops (Unserved fault)) = Some fault
fault_of_turn (Stops (Reserved at code)) = None

-- the clocks of served steps, in Φ
abbrev pub clocks_heard : List TracedStep → ℕ
clocks_heard steps = sum_by (λ step. step_clocks step.long) steps

pub record TraceLaw : Type 0 where
  -- a trace has a step that is not served where the run stops by it, and nowhere else
  pub turn_stops : (x : Position) → fault_in (turn_course x).fault ≡ fault_of_turn (next x)
  pub reset_stops : (x : Position) → fault_in (reset_course x).fault ≡ reset_fault x
  -- the steps of an instruction that is done, and of reset, take as long as it
  pub turn_clocks : (x y : Position) → next x ≡ Goes y →
      y.flat.state.phi ≡ x.flat.state.phi + clocks_heard (turn_course x).steps
  pub reset_clocks : (x : Position) → reset_fault x ≡ None →
      (position_after_reset x).flat.state.phi ≡ x.flat.state.phi + clocks_heard (reset_course x).steps
