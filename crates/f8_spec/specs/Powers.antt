-- How the chips of a description are powered on. That a chip may differ from the others is this project's own.
use Rattle.std.specs.Prelude.{ℕ, ◌≡◌, ◌<◌, List, slice_get, Some, None, unwrap_or}
use Rattle.f8_spec.specs.declared.chips.PowerOn.{PowerOn}

-- as all chips are
abbrev pub usual_power : PowerOn
usual_power = record { fill = None; start = None }

-- what is said of the chip in a place of the description; where the list ends before it, nothing is
abbrev pub said_of : List PowerOn → ℕ → PowerOn
said_of powers place = unwrap_or (slice_get powers place) usual_power

-- what is said are a byte and an address
pub record IsPower (p : PowerOn) : Type 0 where
  pub fill : (byte : ℕ) → p.fill ≡ Some byte → byte < 256
  pub start : (at : ℕ) → p.start ≡ Some at → at < 65536

-- so it is of each chip, in the order of the description
abbrev pub ArePowers : List PowerOn → Type 0
ArePowers powers = (place : ℕ) (p : PowerOn) → slice_get powers place ≡ Some p → IsPower p
