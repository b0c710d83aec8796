-- What a specification says of a chip, and the chip that `fit` makes of it (Mostek 3851, 3853 and 3861 data sheets for the boundaries). The
-- pages of a 3853 and what a chip holds before power-on are this project's own.
use Rattle.std.specs.Prelude.{ℕ, ◌+◌, ◌*◌, ◌/◌, ◌%◌, ◌≡◌, ◌≤◌, Bool, true, false, All, List, [], ◌∷◌, ◌++◌, length, map}
use Rattle.std.specs.Prelude.{take, drop, replicate, count_by, Option, Some}
use Rattle.std.specs.List.Sorted.{IsStrictlyIncreasing}
use Rattle.f8_spec.specs.ChipState.{ChipView, ChipState, blank_view, is_rom, patched_bytes}
use Rattle.f8_spec.specs.declared.chips.ChipKind.{ChipKind}
use Rattle.f8_spec.specs.declared.chips.ChipKind.TheVariants.{Psu as PsuKind, Smi as SmiKind, Pio as PioKind}
use Rattle.f8_spec.specs.declared.chips.PageSort.{PageSort}
use Rattle.f8_spec.specs.declared.chips.PageSort.TheVariants.{Rom, Ram, Void}
use Rattle.f8_spec.specs.declared.chips.Page.{Page}
use Rattle.chip_face.specs.declared.specification.ChipSpec.{ChipSpec}
use Rattle.chip_face.specs.declared.specification.ChipSpec.TheVariants.{Blank, Psu, Smi, Pio}
use Rattle.chip_face.specs.declared.fault.FitFault.{FitFault}
use Rattle.chip_face.specs.declared.fault.FitFault.TheVariants.{WrongKind, Memory}

abbrev pub kind_of : ChipSpec → ChipKind
kind_of (Blank kind) = kind
kind_of (Psu base rom ports vector wired) = PsuKind
kind_of (Smi pages rom wired) = SmiKind
kind_of (Pio ports vector wired) = PioKind

-- ---- what a specification has to be

-- the first of four ports from 4 to 255, on a boundary of 4
pub record AreFourPorts (ports : ℕ) : Type 0 where
  pub above_cpu : 4 ≤ ports
  pub below_end : ports ≤ 252
  pub boundary : ports % 4 ≡ 0

-- a 3851: 1,024 bytes on a boundary of 1,024, and four ports
pub record IsPsuSpec (base : ℕ) (rom : List ℕ) (ports : ℕ) : Type 0 where
  pub bytes : length rom ≡ 1024
  pub boundary : base % 1024 ≡ 0
  pub four_ports : AreFourPorts ports

-- a 3853: pages in ascending order, no two with one number, and 256 bytes for each ROM page
pub record IsSmiSpec (pages : List Page) (rom : List ℕ) : Type 0 where
  pub ascending : IsStrictlyIncreasing (map (λ p. p.number) pages)
  pub bytes : length rom ≡ 256 * count_by (λ p. is_rom p.sort) pages

abbrev pub IsSpec : ChipSpec → Type 0
IsSpec (Blank kind) = Unit {0}
IsSpec (Psu base rom ports vector wired) = IsPsuSpec base rom ports
IsSpec (Smi pages rom wired) = IsSmiSpec pages rom
IsSpec (Pio ports vector wired) = AreFourPorts ports

abbrev pub is_blank : ChipSpec → Bool
is_blank (Blank kind) = true
is_blank (Psu base rom ports vector wired) = false
is_blank (Smi pages rom wired) = false
is_blank (Pio ports vector wired) = false

-- the ROM's bytes
abbrev pub rom_of : ChipSpec → List ℕ
rom_of (Blank kind) = []
rom_of (Psu base rom ports vector wired) = rom
rom_of (Smi pages rom wired) = rom
rom_of (Pio ports vector wired) = []

-- how many of them belong to a page of a 3853
abbrev pub rom_size : PageSort → ℕ
rom_size Rom = 256
rom_size Ram = 0
rom_size Void = 0

-- the chips of a description
pub record IsChipList (chips : List ChipSpec) : Type 0 where
  pub few : length chips ≤ 16
  pub specified : All IsSpec chips
  pub none_blank : All (λ chip. is_blank chip ≡ false) chips

-- ---- the chip that is fitted

abbrev pub rom_page : ℕ → Page
rom_page number = record { number = number; sort = Rom }

-- the four pages of a 3851
abbrev pub psu_pages : ℕ → List Page
psu_pages base =
    rom_page (base / 256) ∷ rom_page (base / 256 + 1) ∷ rom_page (base / 256 + 2) ∷ rom_page (base / 256 + 3) ∷ []

-- what a 3853's page is filled with: the next 256 bytes of the specification in ROM, 0 in RAM, and 255 where there is nothing
abbrev pub page_content : PageSort → List ℕ → List ℕ
page_content Rom rom = take 256 rom
page_content Ram rom = replicate 256 0
page_content Void rom = replicate 256 255

-- what is left of the specification's bytes for the pages after it
abbrev pub rom_after : PageSort → List ℕ → List ℕ
rom_after Rom rom = drop 256 rom
rom_after Ram rom = rom
rom_after Void rom = rom

abbrev pub page_bytes : List Page → List ℕ → List ℕ
page_bytes [] rom = []
page_bytes (p ∷ ps) rom = page_content p.sort rom ++ page_bytes ps (rom_after p.sort rom)

-- The chip of a specification before power-on: counters, latches, key bytes, control, last byte and RAM are 0, the timer stands at 255
-- and no request is latched. A 3853's vector is 0, and its four ports begin at 0C. Where the chip has a patch, its byte stands in the ROM.
abbrev pub fitted : Option (ℕ × ℕ) → ChipSpec → ChipView
fitted patch (Blank kind) = blank_view kind
fitted patch (Psu base rom ports vector wired) = record (blank_view PsuKind) {
  pages = psu_pages base;
  bytes = patched_bytes patch (psu_pages base) rom;
  vector = vector;
  ports = Some ports;
  wired = wired;
}
fitted patch (Smi pages rom wired) = record (blank_view SmiKind) {
  pages = pages;
  bytes = patched_bytes patch pages (page_bytes pages rom);
  ports = Some 0x0C;
  wired = wired;
}
fitted patch (Pio ports vector wired) = record (blank_view PioKind) {
  vector = vector;
  ports = Some ports;
  wired = wired;
}

-- A chip after it was fitted, which is of the specification's kind. The steps that it tells and its patch stay.
pub record FitsAs (spec : ChipSpec) (old new : ChipState) : Type 0 where
  pub kind : kind_of spec ≡ old.view.kind
  pub view : new.view ≡ fitted old.patch spec
  pub heard : new.heard_steps ≡ old.heard_steps
  pub patch : new.patch ≡ old.patch

abbrev pub fault_number : FitFault → ℕ
fault_number WrongKind = 1
fault_number Memory = 2
