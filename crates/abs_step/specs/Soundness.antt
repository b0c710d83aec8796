-- What an invariant map that is closed and safe says of runs with free inputs.
use Rattle.std.specs.Prelude.{◌≡◌, ℕ, ◌⊎◌, List, Option, Some, None}
use Rattle.f8_spec.specs.Instructions.{decoded}
use Rattle.f8_spec.specs.BusArbitration.{Seat}
use Rattle.f8_spec.specs.declared.instructions.Op.{Op}
use Rattle.console_spec.specs.FreeRuns.{IsFreeStart, IsReached}
use Rattle.console_spec.specs.Services.{Fault, Conflict, Undriven, Astray}
use Rattle.console_spec.specs.Run.{Position, opcode_at, instruction_fault, reset_fault}
use Rattle.abs_domain.specs.AbstractState.{AbstractState}
use Rattle.abs_domain.specs.declared.points.Point.{Point}
use Rattle.abs_step.specs.CartridgeAnalysis.{analysis}
use Rattle.abs_step.specs.MapView.{MapView, IsViewOf}
use Rattle.abs_step.specs.ReachedStates.{IsClosedMap, HoldsSafeStates, HoldsFaultFreeStates}

-- ---- what is said of a position

-- a read at the data counter, of a byte there or of its own bytes
abbrev pub IsDataRead : ℕ → Type 0
IsDataRead romc = (romc ≡ 0x02) ⊎ (romc ≡ 0x06) ⊎ (romc ≡ 0x09)

-- there is no fault but one: no chip answers a read at the data counter
abbrev pub OnlyUndriven : ℕ → Option Fault → Type 0
OnlyUndriven d0 None = Unit {0}
OnlyUndriven d0 (Some (Undriven romc at)) = IsDataRead romc × (at ≡ d0)
OnlyUndriven d0 (Some (Conflict romc parties)) = ⊥
OnlyUndriven d0 (Some (Astray romc socket at reference)) = ⊥

-- The next instruction isn't reserved, and a claim holds of its fault.
pub record GoesOn (claim : Option Fault → Type 0) (here : Position) : Type 0 where
  pub op : Op
  pub is : decoded (opcode_at here) ≡ Some op
  pub fault : claim (instruction_fault op here)

-- ---- the laws

-- over what is right of these chips the map is closed and safe
pub record IsSafeMap (m : MapView) (seats : List Seat) (tracked : List ℕ) (notes : List (Point × AbstractState)) : Type 0 where
  pub view : IsViewOf m seats
  pub closed : IsClosedMap (analysis m tracked) notes
  pub safe : HoldsSafeStates (analysis m tracked) notes

pub record SoundnessLaw : Type 0 where
  -- reset is served, and each instruction of every run with free inputs is, but for reads that no chip answers at D0
  pub reset : (m : MapView) (seats : List Seat) (tracked : List ℕ) (notes : List (Point × AbstractState)) →
      IsSafeMap m seats tracked notes → (here : Position) → IsFreeStart m.byte seats here → reset_fault here ≡ None
  pub sound : (m : MapView) (seats : List Seat) (tracked : List ℕ) (notes : List (Point × AbstractState)) →
      IsSafeMap m seats tracked notes → (n : ℕ) (here : Position) → IsReached m.byte seats n here →
      GoesOn (OnlyUndriven here.flat.state.flow.d0) here
  -- free of faults too: each instruction is served
  pub fault_free : (m : MapView) (seats : List Seat) (tracked : List ℕ) (notes : List (Point × AbstractState)) →
      IsSafeMap m seats tracked notes → HoldsFaultFreeStates (analysis m tracked) notes → (n : ℕ) (here : Position) →
      IsReached m.byte seats n here → GoesOn (λ fault. fault ≡ None) here
