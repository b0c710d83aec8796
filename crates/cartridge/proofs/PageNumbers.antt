-- The pages of runs ascend.
use Rattle.std.proofs.Common.{◌≡◌, ℕ, ◌+◌, Bool, List, [], ◌∷◌, map, Option, Some, None, is_some, refl, ap, arith}
use Rattle.std.specs.Prelude.{filter, filter_map, find, option_map, if◌then◌else◌}
use Rattle.std.specs.List.{range_with_len, cons_option}
use Rattle.std.specs.List.Sorted.{IsStrictlyIncreasing}
use Rattle.std.proofs.lemmas.List.FromFn.{length-range_with_len, get_or-range_with_len}
use Rattle.std.proofs.lemmas.List.Kept.{IsStrictlyIncreasing-filter}
use Rattle.f8_spec.specs.declared.chips.Page.{Page}
use Rattle.cartridge.specs.declared.page_run.PageRun.{PageRun}
use Rattle.cartridge.specs.Pages.{has_page, page_at, pages_of}
use Rattle.cartridge.proofs.PageLists.{pages_below, whole}

abbrev page_number : Page → ℕ
page_number p = p.number

-- ---- the numbers ascend

abbrev has_run : List PageRun → ℕ → Bool
has_run runs n = is_some (find (has_page n) runs)

numbers-more : (run : Option PageRun) (n : ℕ) (pages : List Page) (ns : List ℕ) → map page_number pages ≡ ns
    → map page_number (cons_option (option_map (λ r. record { number = n; sort = r.sort }) run) pages) ≡ (if is_some run then n ∷ ns else ns)
numbers-more (Some run) n pages ns h = ap (λ (rest : List ℕ). n ∷ rest) h
numbers-more None n pages ns h = h

numbers : (runs : List PageRun) (ns : List ℕ) → map page_number (filter_map (page_at runs) ns) ≡ filter (has_run runs) ns
numbers runs [] = refl
numbers runs (n ∷ ns) = numbers-more (find (has_page n) runs) n (filter_map (page_at runs) ns) (filter (has_run runs) ns) (numbers runs ns)

range-ascends : (n : ℕ) → IsStrictlyIncreasing (range_with_len 0 n)
range-ascends n k within =
    let size = length-range_with_len 0 n in
    let here = get_or-range_with_len 0 n k 0 (omega (arith, size)) in
    let there = get_or-range_with_len 0 n (k + 1) 0 (omega (arith, size)) in
    omega (arith, here, there)

below-ascends : (runs : List PageRun) (n : ℕ) → IsStrictlyIncreasing (map page_number (pages_below runs n))
below-ascends runs n = rw (numbers runs (range_with_len 0 n)) (IsStrictlyIncreasing-filter (has_run runs) (range_with_len 0 n) (range-ascends n))

-- ---- all pages

all-below : (runs : List PageRun) (n : ℕ) → n ≡ 256 → pages_below runs n ≡ pages_of runs
all-below runs n at = whole runs n (pages_below runs n) at refl

ascends : (runs : List PageRun) (n : ℕ) → n ≡ 256 → IsStrictlyIncreasing (map page_number (pages_of runs))
ascends runs n at = rw (← all-below runs n at) (below-ascends runs n)

pub pages_of-ascends : (runs : List PageRun) → IsStrictlyIncreasing (map (λ (p : Page). p.number) (pages_of runs))
pages_of-ascends runs = ascends runs 256 refl
