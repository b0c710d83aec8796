-- How many chips have each port, as lists by port.
use Rattle.std.specs.Prelude.{◌≡◌, ℕ, ◌<◌, List, slice_index}
use Rattle.console_spec.specs.Writes.{readers, takers}
use Rattle.chip_face.specs.declared.specification.ChipSpec.{ChipSpec}
use Rattle.memory_map.specs.MapOf.{seats_of}

-- how many have each port as a data port
pub record AreReaders (chips : List ChipSpec) (counts : List ℕ) : Type 0 where
  pub count : (port : ℕ) → port < 256 → slice_index counts port ≡ readers port (seats_of chips)

-- how many have each port at all
pub record AreTakers (chips : List ChipSpec) (counts : List ℕ) : Type 0 where
  pub count : (port : ℕ) → port < 256 → slice_index counts port ≡ takers port (seats_of chips)
