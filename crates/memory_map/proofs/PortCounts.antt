-- The chips that have a port, counted one after another.
use Rattle.std.proofs.Common.{◌≡◌, ℕ, ◌+◌, ◌≤◌, Bool, List, length, drop}
use Rattle.std.specs.Prelude.{filter}
use Rattle.f8_spec.specs.BusArbitration.{Seat}
use Rattle.chip_face.specs.declared.specification.ChipSpec.{ChipSpec}
use Rattle.memory_map.specs.MapOf.{seats_of}

-- the chips of which a test of their seats holds
abbrev pub passing : (Seat → Bool) → List ChipSpec → ℕ
passing test chips = length (filter test (seats_of chips))

-- so many of some chips are counted: with those among the others, they come to all
pub record Tallied (test : Seat → Bool) (chips : List ChipSpec) (count i : ℕ) : Type 0 where
  pub is : count + passing test (drop i chips) ≡ passing test chips
  pub few : count ≤ i
