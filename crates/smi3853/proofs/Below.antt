-- The bytes of pages are below 256, as those of the ROM are.
use Rattle.std.proofs.Common.{ℕ, zero, suc, ◌<◌, List, [], ◌∷◌, arith}
use Rattle.std.specs.Prelude.{slice_index}
use Rattle.std.specs.List.{All}
use Rattle.std.proofs.lemmas.List.Elements.{All-nil, All-append, All-take, All-drop, All-replicate, All-from_get_or}
use Rattle.f8_spec.specs.declared.chips.Page.{Page}
use Rattle.f8_spec.specs.declared.chips.PageSort.{PageSort}
use Rattle.f8_spec.specs.declared.chips.PageSort.TheVariants.{Rom, Ram, Void}
use Rattle.chip_face.specs.Fitting.{page_bytes, page_content, rom_after}

abbrev IsByte : ℕ → Type 0
IsByte byte = byte < 256

content_below : (sort : PageSort) (rom : List ℕ) → All IsByte rom → All IsByte (page_content sort rom)
content_below Rom rom below = All-take IsByte 256 rom below
content_below Ram rom below = All-replicate IsByte 256 0 (omega arith)
content_below Void rom below = All-replicate IsByte 256 255 (omega arith)

rest_below : (sort : PageSort) (rom : List ℕ) → All IsByte rom → All IsByte (rom_after sort rom)
rest_below Rom rom below = All-drop IsByte 256 rom below
rest_below Ram rom below = below
rest_below Void rom below = below

all_below : (pages : List Page) (rom : List ℕ) → All IsByte rom → All IsByte (page_bytes pages rom)
all_below [] rom below = All-nil IsByte
all_below (p ∷ ps) rom below =
    All-append IsByte (page_content p.sort rom) (page_bytes ps (rom_after p.sort rom)) (content_below p.sort rom below)
    (all_below ps (rom_after p.sort rom) (rest_below p.sort rom below))

each_below : (bytes : List ℕ) → All IsByte bytes → (place : ℕ) → slice_index bytes place < 256
each_below [] below place = omega arith
each_below (byte ∷ bytes) below zero = below 0 0 (omega arith)
each_below (byte ∷ bytes) below (suc place) = each_below bytes (λ at other within. below (suc at) other (omega arith)) place

pub page_bytes_below : (pages : List Page) (rom : List ℕ) → ((place : ℕ) → slice_index rom place < 256) → (place : ℕ) →
    slice_index (page_bytes pages rom) place < 256
page_bytes_below pages rom below place =
    each_below (page_bytes pages rom) (all_below pages rom (All-from_get_or IsByte rom 0 (λ at within. below at))) place
