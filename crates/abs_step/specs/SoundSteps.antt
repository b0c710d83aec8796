-- One step of the checker beside one instruction of a run, with its interrupt and the events behind it.
use Rattle.std.specs.Prelude.{◌≡◌, ℕ, ◌<◌, List, Some, None}
use Rattle.std.specs.List.{AllByRecursion, Contains}
use Rattle.f8_spec.specs.Instructions.{decoded}
use Rattle.f8_spec.specs.BusArbitration.{Seat}
use Rattle.f8_spec.specs.declared.instructions.Op.{Op}
use Rattle.console_spec.specs.AddressSpace.{byte_at}
use Rattle.console_spec.specs.FreeRuns.{HasByte, IsFreeStart, IsInRange}
use Rattle.console_spec.specs.Run.{Position, opcode_at, position_after, seats_of}
use Rattle.console_spec.specs.Telling.{with_events}
use Rattle.console_spec.specs.declared.Event.{Event}
use Rattle.abs_step.specs.Concretization.{StandsFor}
use Rattle.abs_step.specs.MapView.{MapView, IsViewOf}
use Rattle.abs_step.specs.Safety.{unsafe_reason}
use Rattle.abs_step.specs.Successors.{Invariant, start_invariant, successors}

-- the invariant stands for the position, over a map of its chips; all is in its range, and the bytes that stay are there
pub record IsBeside (m : MapView) (x : Invariant) (here : Position) : Type 0 where
  pub view : IsViewOf m (seats_of here.copies)
  pub tells : StandsFor x here
  pub range : IsInRange here
  pub fixed : (at byte : ℕ) → at < 65536 → m.byte at ≡ Some byte → byte_at here.flat.memory at ≡ byte

-- an invariant that holds next is beside a position
pub record IsLedTo (m : MapView) (tracked : List ℕ) (x : Invariant) (op : Op) (there : Position) : Type 0 where
  pub to : Invariant
  pub is : Contains (successors op m tracked x) to
  pub beside : IsBeside m to there

pub record SoundStepLaw : Type 0 where
  -- the start is beside each position in which a run may begin
  pub start : (m : MapView) (seats : List Seat) (here : Position) → IsViewOf m seats → IsFreeStart m.byte seats here →
      IsBeside m start_invariant here
  -- and where an invariant is safe and beside a position, one that holds next is beside the position after the instruction and any events
  pub next : (m : MapView) (tracked : List ℕ) (x : Invariant) (here : Position) (op : Op) (events : List Event) →
      unsafe_reason m tracked x ≡ None → IsBeside m x here → decoded (opcode_at here) ≡ Some op → AllByRecursion HasByte events →
      IsLedTo m tracked x op (with_events events (position_after op here))
