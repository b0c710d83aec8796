-- Values worked out by hand: a 3853 with a ROM page at 00, a RAM page at 28 and a void page at 80, whose ROM is all 7.
use Rattle.std.proofs.Common.{◌≡◌, ℕ, refl}
use Rattle.std.specs.Prelude.{List, [], ◌∷◌, Option, Some, None, replicate}
use Rattle.f8_spec.specs.ChipState.{ChipView, held_byte}
use Rattle.f8_spec.specs.declared.chips.Page.{Page}
use Rattle.f8_spec.specs.declared.chips.PageSort.TheVariants.{Rom, Ram, Void}
use Rattle.chip_face.specs.Fitting.{fitted}
use Rattle.chip_face.specs.declared.specification.ChipSpec.TheVariants.{Psu, Smi}
use Rattle.std.specs.Prelude.{true}

abbrev three_pages : List Page
three_pages = record { number = 0x00; sort = Rom } ∷ record { number = 0x28; sort = Ram } ∷ record { number = 0x80; sort = Void } ∷ []

abbrev smi_with : Option (ℕ × ℕ) → ChipView
smi_with patch = fitted patch (Smi three_pages (replicate 256 7) true)

rom_byte : held_byte (smi_with None) 0x00FF ≡ Some 7
rom_byte = refl

ram_byte : held_byte (smi_with None) 0x2801 ≡ Some 0
ram_byte = refl

void_byte : held_byte (smi_with None) 0x8000 ≡ Some 255
void_byte = refl

no_byte : held_byte (smi_with None) 0x0100 ≡ None
no_byte = refl

-- a patch counts in a ROM page alone
patched_rom : held_byte (smi_with (Some (0x0080, 9))) 0x0080 ≡ Some 9
patched_rom = refl

patched_ram : held_byte (smi_with (Some (0x2801, 9))) 0x2801 ≡ Some 0
patched_ram = refl

-- a 3851 at 0800 holds 1,024 bytes
psu_first : held_byte (fitted None (Psu 0x0800 (replicate 1024 7) 4 0 true)) 0x0800 ≡ Some 7
psu_first = refl

psu_last : held_byte (fitted None (Psu 0x0800 (replicate 1024 7) 4 0 true)) 0x0BFF ≡ Some 7
psu_last = refl

psu_past : held_byte (fitted None (Psu 0x0800 (replicate 1024 7) 4 0 true)) 0x0C00 ≡ None
psu_past = refl

psu_before : held_byte (fitted None (Psu 0x0800 (replicate 1024 7) 4 0 true)) 0x07FF ≡ None
psu_before = refl
