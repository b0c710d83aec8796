-- The bytes that a specification has for its pages.
use Rattle.std.proofs.Common.{◌≡◌, ℕ, ◌+◌, ◌*◌, ◌≤◌, List, ◌∷◌, length, arith}
use Rattle.std.specs.Prelude.{if◌then◌else◌, count_by}
use Rattle.std.proofs.lemmas.List.{length-take-le, length-replicate}
use Rattle.std.proofs.lemmas.List.Sums.{sum_by-cons}
use Rattle.f8_spec.specs.ChipState.{is_rom}
use Rattle.f8_spec.specs.declared.chips.Page.{Page}
use Rattle.f8_spec.specs.declared.chips.PageSort.{PageSort}
use Rattle.f8_spec.specs.declared.chips.PageSort.TheVariants.{Rom, Ram, Void}
use Rattle.chip_face.specs.Fitting.{page_content, rom_size}

-- the ROM pages among some
abbrev pub rom_count : List Page → ℕ
rom_count pages = count_by (λ p. is_rom p.sort) pages

pub size_counted : (p : Page) (ps : List Page) → 256 * rom_count (p ∷ ps) ≡ rom_size p.sort + 256 * rom_count ps
size_counted p ps = rw (sum_by-cons (λ (q : Page). if is_rom q.sort then 1 else 0) p ps) (step p.sort (rom_count ps))
  where
    step : (sort : PageSort) (count : ℕ) → 256 * ((if is_rom sort then 1 else 0) + count) ≡ rom_size sort + 256 * count
    step Rom count = omega arith
    step Ram count = omega arith
    step Void count = omega arith

pub length-page_content : (sort : PageSort) (rom : List ℕ) → rom_size sort ≤ length rom → length (page_content sort rom) ≡ 256
length-page_content Rom rom enough = length-take-le 256 rom enough
length-page_content Ram rom enough = length-replicate {A = ℕ} 256 0
length-page_content Void rom enough = length-replicate {A = ℕ} 256 255
