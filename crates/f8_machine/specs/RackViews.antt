-- What the chips of a rack hold of a position: the copies of the counters, the memory and the ports.
use Rattle.std.specs.Prelude.{◌≡◌, ℕ, Bool, List, [], ◌∷◌, ◌<◌, true, slice_get, Some, length, slice_index, is_some}
use Rattle.f8_spec.specs.BusCodes.{Count}
use Rattle.f8_spec.specs.ChipState.{ChipView, IsFilled, has_second_counter, holds, held_byte, data_port}
use Rattle.f8_spec.specs.BusArbitration.{seat_of}
use Rattle.console_spec.specs.Processor.{Flow}
use Rattle.console_spec.specs.CounterCopies.{Copy, own_counts}
use Rattle.console_spec.specs.AddressSpace.{byte_at}
use Rattle.console_spec.specs.Writes.{latch_of}
use Rattle.console_spec.specs.declared.PortWrite.{PortWrite}

-- ---- the copies

-- A chip with its copy: its counters are those of the copy, as a function of a set of counters with or without a second data counter, and
-- 0 where it has none; and the byte that it heard last.
pub record IsCopy (now : Bool → Flow → Count) (last : ℕ) (c : Copy) (v : ChipView) : Type 0 where
  pub seat : seat_of v ≡ c.seat
  pub counters : v.counters ≡ own_counts c.seat.kind (now (has_second_counter c.seat.kind) c.flow)
  pub heard : v.last ≡ last
  pub filled : IsFilled v

abbrev pub AreCopies : (Bool → Flow → Count) → ℕ → List Copy → List ChipView → Type 0
AreCopies now last [] [] = Unit {0}
AreCopies now last [] (v ∷ vs) = ⊥
AreCopies now last (c ∷ cs) [] = ⊥
AreCopies now last (c ∷ cs) (v ∷ vs) = IsCopy now last c v × AreCopies now last cs vs

-- ---- the memory. Nothing says that the chips agree.

-- every chip that holds the address stands at this place
abbrev pub HeldOnce : List ChipView → ℕ → ℕ → Type 0
HeldOnce vs at place = (j : ℕ) (w : ChipView) → slice_get vs j ≡ Some w → holds w at ≡ true → j ≡ place

-- a chip that alone holds an address has the flat machine's byte there
abbrev pub HoldsFlat : List ℕ → List ChipView → Type 0
HoldsFlat memory vs =
    (place : ℕ) (v : ChipView) (at : ℕ) → at < 65536 → slice_get vs place ≡ Some v → holds v at ≡ true →
    HeldOnce vs at place →
    held_byte v at ≡ Some (byte_at memory at)

-- ---- the ports: the latch and the key byte of a data port that one chip alone has. Where several chips have a port its steps are
-- conflicts, and nothing is kept.

-- every chip that has the port as a data port stands at this place
abbrev pub ReadOnce : List ChipView → ℕ → ℕ → Type 0
ReadOnce vs port place = (j : ℕ) (w : ChipView) → slice_get vs j ≡ Some w → is_some (data_port w port) ≡ true →
    j ≡ place

-- the latch of a port and its key byte, at their place in the chip, are those of the flat machine
pub record IsPort (keys : List ℕ) (writes : List PortWrite) (port latch : ℕ) (v : ChipView) : Type 0 where
  pub latches : latch < length v.latches
  pub key_bytes : latch < length v.key_bytes
  pub written : slice_index v.latches latch ≡ latch_of port writes
  pub key : slice_index v.key_bytes latch ≡ slice_index keys port

-- a chip that alone has a data port has the flat machine's latch and key byte there
abbrev pub HoldsPorts : List ℕ → List PortWrite → List ChipView → Type 0
HoldsPorts keys writes vs =
    (place : ℕ) (v : ChipView) (port latch : ℕ) → slice_get vs place ≡ Some v → data_port v port ≡ Some latch →
    ReadOnce vs port place →
    IsPort keys writes port latch v
