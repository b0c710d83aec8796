-- Power-on leaves a ROM as it is.
use Rattle.std.proofs.Common.{◌≡◌, ℕ, Bool, true, false, List, [], refl}
use Rattle.std.specs.Prelude.{if◌then◌else◌, ◌==◌}
use Rattle.std.proofs.lemmas.List.{take-append-drop}
use Rattle.f8_spec.specs.ChipState.{filled_bytes}
use Rattle.chip_face.specs.Fitting.{psu_pages}

-- the bytes of four ROM pages stay
filled_rom : (fill base : ℕ) (rom : List ℕ) → filled_bytes fill (psu_pages base) rom ≡ rom
filled_rom fill base rom = simp take-append-drop

-- and so do those of a chip that holds them, or none
filled_if : (fill base : ℕ) (rom : List ℕ) (blank : Bool) →
    filled_bytes fill (if blank then [] else psu_pages base) (if blank then [] else rom) ≡ (if blank then [] else rom)
filled_if fill base rom true = refl
filled_if fill base rom false = filled_rom fill base rom

pub filled_held : (fill base size : ℕ) (rom : List ℕ) →
    filled_bytes fill (if size == 0 then [] else psu_pages base) (if size == 0 then [] else rom) ≡ (if size == 0 then [] else rom)
filled_held fill base size rom = filled_if fill base rom (size == 0)
