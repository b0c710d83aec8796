-- Bytes that are put into a ROM, one after another.
use Rattle.std.proofs.Common.{◌≡◌, ℕ, List, drop}
use Rattle.cartridge.specs.Filling.{rom_with}

-- what was put, and the bytes from the place i on, make the whole
pub record PutsOn (first : ℕ) (bytes : List (ℕ × ℕ)) (i : ℕ) (rom whole : List ℕ) : Type 0 where
  pub is : rom_with first (drop i bytes) rom ≡ whole
