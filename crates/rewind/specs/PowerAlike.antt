-- Chips of which power-on makes the same, whatever came to them before it.
use Rattle.std.specs.Prelude.{◌≡◌, ℕ, List, [], ◌∷◌, slice_get, Some}
use Rattle.f8_spec.specs.ChipState.{ChipView, IsFilled, powered}

-- power-on makes the same of two chips, with whatever byte and address
abbrev pub PowersAlike : ChipView → ChipView → Type 0
PowersAlike now first = (fill start : ℕ) → powered fill start now ≡ powered fill start first

-- and so of the chips of two racks, socket by socket
abbrev pub RacksPowerAlike : List ChipView → List ChipView → Type 0
RacksPowerAlike [] [] = Unit {0}
RacksPowerAlike [] (v ∷ vs) = ⊥
RacksPowerAlike (u ∷ us) [] = ⊥
RacksPowerAlike (u ∷ us) (v ∷ vs) = PowersAlike u v × RacksPowerAlike us vs

-- every chip has 256 bytes for each of its pages
abbrev pub AreFilled : List ChipView → Type 0
AreFilled vs = (socket : ℕ) (v : ChipView) → slice_get vs socket ≡ Some v → IsFilled v

-- the chips of a rack as they are now, beside those that they were at first
pub record PowerAlike (now first : List ChipView) : Type 0 where
  pub alike : RacksPowerAlike now first
  pub filled : AreFilled now
  pub filled_first : AreFilled first
