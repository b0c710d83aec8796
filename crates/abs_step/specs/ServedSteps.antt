-- One instruction of a run with a safe invariant before it and one behind it: the first says that its accesses are served, but for what the
-- second says of the fetch at its end.
use Rattle.std.specs.Prelude.{◌≡◌, ℕ, true, List, None, Some}
use Rattle.f8_spec.specs.Instructions.{decoded}
use Rattle.f8_spec.specs.BusArbitration.{Seat}
use Rattle.f8_spec.specs.declared.instructions.Op.{Op}
use Rattle.console_spec.specs.FreeRuns.{IsFreeStart}
use Rattle.console_spec.specs.Run.{Position, opcode_at, instruction_fault, position_after, reset_fault}
use Rattle.abs_step.specs.MapView.{MapView}
use Rattle.abs_step.specs.Safety.{unsafe_reason, is_fault_free}
use Rattle.abs_step.specs.Soundness.{OnlyUndriven}
use Rattle.abs_step.specs.SoundSteps.{IsBeside}
use Rattle.abs_step.specs.Successors.{Invariant}

-- a safe invariant is beside the position
pub record IsSafelyBeside (m : MapView) (tracked : List ℕ) (x : Invariant) (here : Position) : Type 0 where
  pub safe : unsafe_reason m tracked x ≡ None
  pub beside : IsBeside m x here

pub record ServedStepLaw : Type 0 where
  -- where a run begins reset is served
  pub reset : (m : MapView) (seats : List Seat) (tracked : List ℕ) (x : Invariant) (here : Position) →
      IsSafelyBeside m tracked x here → IsFreeStart m.byte seats here → reset_fault here ≡ None
  -- the next opcode isn't reserved
  pub opcode : (m : MapView) (tracked : List ℕ) (x : Invariant) (here : Position) → IsSafelyBeside m tracked x here →
      (op : Op) × (decoded (opcode_at here) ≡ Some op)
  -- each access of its instruction is served but for reads that no chip answers at D0
  pub sound : (m : MapView) (tracked : List ℕ) (x y : Invariant) (here : Position) (op : Op) → IsSafelyBeside m tracked x here →
      decoded (opcode_at here) ≡ Some op → IsSafelyBeside m tracked y (position_after op here) →
      OnlyUndriven here.flat.state.flow.d0 (instruction_fault op here)
  -- and each is where the invariant before it is free of faults besides
  pub fault_free : (m : MapView) (tracked : List ℕ) (x y : Invariant) (here : Position) (op : Op) → IsSafelyBeside m tracked x here →
      is_fault_free m x ≡ true → decoded (opcode_at here) ≡ Some op → IsSafelyBeside m tracked y (position_after op here) →
      instruction_fault op here ≡ None
