-- What the bytes of an image change in a plan. This is a law over `filled_plan`, and knows nothing of the order in which bytes are put.
use Rattle.std.specs.Prelude.{◌≡◌, ℕ, ◌+◌, ◌-◌, ◌<◌, ◌≤◌, ◌≢◌, ◌==◌, if◌then◌else◌, true, List, [], ◌∷◌, length}
use Rattle.std.specs.Prelude.{slice_get, slice_index, Option, Some, None, unwrap_or, IsSomeAnd}
use Rattle.cartridge.specs.Filling.{PlannedSource, PlannedChip, Planned}

abbrev pub or_else : Option ℕ → Option ℕ → Option ℕ
or_else (Some b) other = Some b
or_else None other = other

-- the byte that an image has at an address, the last one where it has several
abbrev pub image_byte : List (ℕ × ℕ) → ℕ → Option ℕ
image_byte [] address = None
image_byte (b ∷ bs) address = or_else (image_byte bs address) (if b.0 == address then Some b.1 else None)

-- the byte that a ROM has at an address of its room
abbrev pub rom_byte : PlannedSource → ℕ → ℕ
rom_byte rom address = slice_index rom.bytes (address - rom.source.room.first)

-- the byte of each address of a ROM is the image's where it has one there, and else the old one
pub record HasImage (bytes : List (ℕ × ℕ)) (old new : PlannedSource) : Type 0 where
  pub source : new.source ≡ old.source
  pub filled : new.filled ≡ true
  pub size : length new.bytes ≡ length old.bytes
  pub each : (address : ℕ) → old.source.room.first ≤ address → address < old.source.room.first + length old.bytes →
      rom_byte new address ≡ unwrap_or (image_byte bytes address) (rom_byte old address)

-- a chip is as it was, but for the ROM of its source
pub record IsFilledChip (bytes : List (ℕ × ℕ)) (old new : PlannedChip) : Type 0 where
  pub spec : new.spec ≡ old.spec
  pub rom : IsSomeAnd old.source (λ s. IsSomeAnd new.source (λ t. HasImage bytes s t))

-- the image stands in one chip, and everything else is as it was
pub record IsFilled (old : Planned) (chip : ℕ) (bytes : List (ℕ × ℕ)) (new : Planned) : Type 0 where
  pub split : new.split ≡ old.split
  pub powers : new.powers ≡ old.powers
  pub size : length new.chips ≡ length old.chips
  pub others : (place : ℕ) → place ≢ chip → slice_get new.chips place ≡ slice_get old.chips place
  pub own : IsSomeAnd (slice_get old.chips chip) (λ c. IsSomeAnd (slice_get new.chips chip) (λ d. IsFilledChip bytes c d))
