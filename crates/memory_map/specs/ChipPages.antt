-- A page of 256 addresses as one chip of a description holds it.
use Rattle.std.specs.Prelude.{ℕ, ◌==◌, if◌then◌else◌, List, [], ◌∷◌, take, Option, Some, None}
use Rattle.f8_spec.specs.declared.chips.Page.{Page}
use Rattle.f8_spec.specs.declared.chips.PageSort.{PageSort}
use Rattle.chip_face.specs.Fitting.{psu_pages, rom_after, rom_of, rom_size}
use Rattle.chip_face.specs.declared.specification.ChipSpec.{ChipSpec}
use Rattle.chip_face.specs.declared.specification.ChipSpec.TheVariants.{Blank, Psu, Smi, Pio}

-- what the page is, and the specification's bytes that stand in it
pub record PageView : Type 0 where
  pub sort : PageSort
  pub rom : List ℕ

-- the page of a number among some pages, whose ROM bytes lie one page after another
abbrev pub page_among : ℕ → List Page → List ℕ → Option PageView
page_among number [] rom = None
page_among number (p ∷ ps) rom =
    if p.number == number then Some (record { sort = p.sort; rom = take (rom_size p.sort) rom }) else page_among number ps (rom_after p.sort rom)

abbrev pub pages_of : ChipSpec → List Page
pages_of (Blank kind) = []
pages_of (Psu base rom ports vector wired) = psu_pages base
pages_of (Smi pages rom wired) = pages
pages_of (Pio ports vector wired) = []

-- the page of a number in a chip, and none where the chip does not hold it
unfoldable pub chip_page : ℕ → ChipSpec → Option PageView
chip_page number chip = page_among number (pages_of chip) (rom_of chip)
