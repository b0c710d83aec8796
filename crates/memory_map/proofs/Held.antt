-- A page of one chip: how it is found, and what it says of the chip that is fitted.
use Rattle.std.proofs.Common.{◌≡◌, ℕ, ◌+◌, ◌-◌, ◌*◌, ◌/◌, ◌%◌, ◌<◌, ◌≤◌, Bool, true, false, List, [], ◌∷◌, ◌++◌, length}
use Rattle.std.proofs.Common.{take, drop, refl, ap, ◌∙◌, arith, add-one, length-drop}
use Rattle.std.specs.Prelude.{if◌then◌else◌, ◌==◌, slice_get, slice_index, is_some, Option, Some, None, option_map, option_and_then}
use Rattle.std.proofs.lemmas.List.{take_all, take-append-drop, append-nil, length-take-le, get_or_append_left, get_or-append_right}
use Rattle.std.proofs.lemmas.List.{get_or-replicate}
use Rattle.f8_spec.specs.ChipState.{place_of, sort_at, held_byte}
use Rattle.f8_spec.specs.declared.chips.Page.{Page}
use Rattle.f8_spec.specs.declared.chips.PageSort.{PageSort}
use Rattle.f8_spec.specs.declared.chips.PageSort.TheVariants.{Rom, Ram, Void}
use Rattle.chip_face.specs.Fitting.{IsSpec, fitted, page_bytes, page_content, psu_pages, rom_after, rom_size}
use Rattle.chip_face.specs.declared.specification.ChipSpec.{ChipSpec}
use Rattle.chip_face.specs.declared.specification.ChipSpec.TheVariants.{Blank, Psu, Smi, Pio}
use Rattle.chip_face.proofs.RomPages.{rom_count, size_counted, length-page_content}
use Rattle.memory_map.specs.ChipPages.{PageView, page_among, chip_page}

-- ---- the search for a page

-- Some pages are passed: the page among the others is the one among all.
pub record Passed (number : ℕ) (pages : List Page) (rom rest : List ℕ) (i : ℕ) : Type 0 where
  pub same : page_among number (drop i pages) rest ≡ page_among number pages rom
  pub left : length rest ≡ 256 * rom_count (drop i pages)

-- ---- what a page says of the pages

-- the sort of an address
sort_at-page_among : (pages : List Page) (rom : List ℕ) (at : ℕ) → sort_at pages at ≡ option_map (λ p. p.sort) (page_among (at / 256) pages rom)
sort_at-page_among [] rom at = refl
sort_at-page_among (p ∷ ps) rom at =
    by_test (p.number == (at / 256)) (place_of ps (at / 256)) (sort_at-page_among ps (rom_after p.sort rom) at)
  where
    by_test : (test : Bool) (place : Option ℕ) →
        option_and_then (λ k. option_map (λ (q : Page). q.sort) (slice_get ps k)) place
        ≡ option_map (λ q. q.sort) (page_among (at / 256) ps (rom_after p.sort rom)) →
        option_and_then (λ k. option_map (λ (q : Page). q.sort) (slice_get (p ∷ ps) k)) (if test then Some 0 else option_map (λ k. k + 1) place)
        ≡ option_map (λ q. q.sort) (if test then Some
        (record { sort = p.sort; rom = take (rom_size p.sort) rom }) else page_among (at / 256) ps
        (rom_after p.sort rom))
    by_test true place later = refl
    by_test false None later = later
    by_test false (Some k) later = rw add-one later

-- whether it is held
is_held-page_among : (pages : List Page) (rom : List ℕ) (number : ℕ) → is_some (place_of pages number) ≡ is_some (page_among number pages rom)
is_held-page_among [] rom number = refl
is_held-page_among (p ∷ ps) rom number =
    by_test (p.number == number) (place_of ps number) (is_held-page_among ps (rom_after p.sort rom) number)
  where
    by_test : (test : Bool) (place : Option ℕ) → is_some place ≡ is_some (page_among number ps (rom_after p.sort rom)) →
        is_some (if test then Some 0 else option_map (λ k. k + 1) place)
        ≡ is_some (if test then Some (record { sort = p.sort; rom = take (rom_size p.sort) rom }) else page_among number ps (rom_after p.sort rom))
    by_test true place later = refl
    by_test false None later = later
    by_test false (Some k) later = later

-- ---- what it says of the bytes

-- the byte at an offset in a page of a chip that is fitted
abbrev pub fitted_byte : PageSort → List ℕ → ℕ → ℕ
fitted_byte Rom rom offset = slice_index rom offset
fitted_byte Ram rom offset = 0
fitted_byte Void rom offset = 255

-- what is left of the bytes behind a page
length-rom_after : (sort : PageSort) (rom : List ℕ) → length (rom_after sort rom) ≡ length rom - rom_size sort
length-rom_after Rom rom = length-drop 256 rom
length-rom_after Ram rom = omega arith
length-rom_after Void rom = omega arith

left_after : (p : Page) (ps : List Page) (rom : List ℕ) → length rom ≡ 256 * rom_count (p ∷ ps) → length (rom_after p.sort rom) ≡ 256 * rom_count ps
left_after p ps rom size = omega (arith, size_counted p ps, length-rom_after p.sort rom)

has_own : (p : Page) (ps : List Page) (rom : List ℕ) → length rom ≡ 256 * rom_count (p ∷ ps) → rom_size p.sort ≤ length rom
has_own p ps rom size = omega (arith, size_counted p ps)

content_byte : (sort : PageSort) (rom : List ℕ) (offset : ℕ) → offset < 256 →
    slice_index (page_content sort rom) offset ≡ fitted_byte sort (take (rom_size sort) rom) offset
content_byte Rom rom offset within = refl
content_byte Ram rom offset within = get_or-replicate 256 offset 0 0 within
content_byte Void rom offset within = get_or-replicate 256 offset 255 0 within

-- the bytes of all pages, and the byte at an offset in one of them
byte_in-page_among : (pages : List Page) (rom : List ℕ) (number offset : ℕ) → offset < 256 → length rom ≡ 256 * rom_count pages →
    option_map (λ place. slice_index (page_bytes pages rom) (place * 256 + offset)) (place_of pages number)
    ≡ option_map (λ p. fitted_byte p.sort p.rom offset) (page_among number pages rom)
byte_in-page_among [] rom number offset within size = refl
byte_in-page_among (p ∷ ps) rom number offset within size =
    by_test (p.number == number) (place_of ps number)
    (byte_in-page_among ps (rom_after p.sort rom) number offset within (left_after p ps rom size))
  where
    own : length (page_content p.sort rom) ≡ 256
    own = length-page_content p.sort rom (has_own p ps rom size)

    by_test : (test : Bool) (place : Option ℕ) →
        option_map (λ k. slice_index (page_bytes ps (rom_after p.sort rom)) (k * 256 + offset)) place
        ≡ option_map (λ q. fitted_byte q.sort q.rom offset) (page_among number ps (rom_after p.sort rom)) →
        option_map (λ k. slice_index (page_content p.sort rom ++ page_bytes ps (rom_after p.sort rom))
        (k * 256 + offset)) (if test then Some 0 else option_map (λ k. k + 1) place)
        ≡ option_map (λ q. fitted_byte q.sort q.rom offset)
        (if test then Some (record { sort = p.sort; rom = take (rom_size p.sort) rom }) else page_among number ps (rom_after p.sort rom))
    by_test true place later =
        let first : slice_index (page_content p.sort rom ++ page_bytes ps (rom_after p.sort rom)) (0 * 256 + offset)
        ≡ slice_index (page_content p.sort rom) offset
        = let start : 0 + offset ≡ offset = omega arith in
        rw start (get_or_append_left (page_content p.sort rom) (page_bytes ps (rom_after p.sort rom)) 0 offset (omega (arith, own))) in
        ap Some (first ∙ content_byte p.sort rom offset within)
    by_test false None later = later
    by_test false (Some k) later =
        let behind : slice_index (page_content p.sort rom ++ page_bytes ps (rom_after p.sort rom))
        ((k + 1) * 256 + offset) ≡ slice_index (page_bytes ps (rom_after p.sort rom)) (k * 256 + offset)
        = get_or-append_right (page_content p.sort rom) (page_bytes ps (rom_after p.sort rom)) 256 ((k + 1) * 256 + offset) 0 own (omega arith)
        ∙ ap (slice_index (page_bytes ps (rom_after p.sort rom))) (omega arith) in
        ap Some behind ∙ later

-- a page has all of its ROM bytes
whole-page_among : (pages : List Page) (rom : List ℕ) (number : ℕ) (q : PageView) → length rom ≡ 256 * rom_count pages → page_among number pages rom ≡ Some q →
    length q.rom ≡ rom_size q.sort
whole-page_among [] rom number q size found = cc
whole-page_among (p ∷ ps) rom number q size found =
    by_test (p.number == number) refl (whole-page_among ps (rom_after p.sort rom) number q (left_after p ps rom size))
  where
    by_test : (test : Bool) → (p.number == number) ≡ test →
        (page_among number ps (rom_after p.sort rom) ≡ Some q → length q.rom ≡ rom_size q.sort) → length q.rom ≡ rom_size q.sort
    by_test true is later =
        let here : Some (record { sort = p.sort; rom = take (rom_size p.sort) rom }) ≡ Some q = rw is at found in
        let same : record { sort = p.sort; rom = take (rom_size p.sort) rom } ≡ q = cc in
        rw (← same) (length-take-le (rom_size p.sort) rom (has_own p ps rom size))
    by_test false is later = later (rw is at found)

-- ---- a chip

-- the ROM of a 3851 lies in its four pages
psu_bytes : (base : ℕ) (rom : List ℕ) → length rom ≡ 1024 → page_bytes (psu_pages base) rom ≡ rom
psu_bytes base rom size =
    rw (
      take_all 256 (drop 256 (drop 256 (drop 256 rom)))
          (omega (
            arith,
            length-drop 256 (drop 256 (drop 256 rom)),
            length-drop 256 (drop 256 rom),
            length-drop 256 rom,
          )),
      append-nil (drop 256 (drop 256 (drop 256 rom))),
      take-append-drop 256 (drop 256 (drop 256 rom)),
      take-append-drop 256 (drop 256 rom),
    )
    (take-append-drop 256 rom)

-- what a page of a chip says of the chip that is fitted
pub record PageTells (chip : ChipSpec) (at : ℕ) : Type 0 where
  pub sort : sort_at (fitted None chip).pages at ≡ option_map (λ p. p.sort) (chip_page (at / 256) chip)
  pub held : is_some (place_of (fitted None chip).pages (at / 256)) ≡ is_some (chip_page (at / 256) chip)
  pub byte : held_byte (fitted None chip) at ≡ option_map (λ p. fitted_byte p.sort p.rom (at % 256)) (chip_page (at / 256) chip)

pub PageTells-from_IsSpec : (chip : ChipSpec) (at : ℕ) → IsSpec chip → PageTells chip at
unfolding chip_page
PageTells-from_IsSpec (Blank kind) at spec = record { sort = refl; held = refl; byte = refl }
PageTells-from_IsSpec (Pio ports vector wired) at spec = record { sort = refl; held = refl; byte = refl }
PageTells-from_IsSpec (Psu base rom ports vector wired) at spec = record {
  sort = sort_at-page_among (psu_pages base) rom at;
  held = is_held-page_among (psu_pages base) rom (at / 256);
  byte =
      let all : page_bytes (psu_pages base) rom ≡ rom = psu_bytes base rom spec.bytes in
      rw all at (byte_in-page_among (psu_pages base) rom (at / 256) (at % 256) (omega arith) spec.bytes);
}
PageTells-from_IsSpec (Smi pages rom wired) at spec = record {
  sort = sort_at-page_among pages rom at;
  held = is_held-page_among pages rom (at / 256);
  byte = byte_in-page_among pages rom (at / 256) (at % 256) (omega arith) spec.bytes;
}

pub whole-chip_page : (chip : ChipSpec) (number : ℕ) (q : PageView) → IsSpec chip → chip_page number chip ≡ Some q → length q.rom ≡ rom_size q.sort
unfolding chip_page
whole-chip_page (Blank kind) number q spec found = cc
whole-chip_page (Pio ports vector wired) number q spec found = cc
whole-chip_page (Psu base rom ports vector wired) number q spec found = whole-page_among (psu_pages base) rom number q spec.bytes found
whole-chip_page (Smi pages rom wired) number q spec found = whole-page_among pages rom number q spec.bytes found

-- whether the chip that is fitted holds a page
pub holds_page : (chip : ChipSpec) (number : ℕ) → is_some (place_of (fitted None chip).pages number) ≡ is_some (chip_page number chip)
unfolding chip_page
holds_page (Blank kind) number = refl
holds_page (Pio ports vector wired) number = refl
holds_page (Psu base rom ports vector wired) number = is_held-page_among (psu_pages base) rom number
holds_page (Smi pages rom wired) number = is_held-page_among pages rom number
