-- The pages of runs, one number after another.
use Rattle.std.proofs.Common.{◌≡◌, ℕ, suc, ◌+◌, ◌≤◌, List, [], ◌∷◌, ◌++◌, length, Option, Some, None, append-nil, refl, sym, ap, ◌∙◌, arith}
use Rattle.std.specs.List.{range_with_len, filter_map, cons_option}
use Rattle.std.proofs.lemmas.List.{map-id}
use Rattle.std.proofs.lemmas.List.FromFn.{map-range_with_len_more, length-range_with_len}
use Rattle.std.proofs.lemmas.List.Elements.{filter_map-append}
use Rattle.f8_spec.specs.declared.chips.Page.{Page}
use Rattle.cartridge.specs.declared.page_run.PageRun.{PageRun}
use Rattle.cartridge.specs.Pages.{page_at, pages_of}

-- the pages with numbers below n
abbrev pub pages_below : List PageRun → ℕ → List Page
pages_below runs n = filter_map (page_at runs) (range_with_len 0 n)

range-more : (n : ℕ) → range_with_len 0 (n + 1) ≡ range_with_len 0 n ++ n ∷ []
range-more n =
    sym (map-id (range_with_len 0 (n + 1))) ∙ map-range_with_len_more (λ (x : ℕ). x) 0 n n (omega arith)
    ∙ ap (λ (ns : List ℕ). ns ++ n ∷ []) (map-id (range_with_len 0 n))

pub pages-more : (runs : List PageRun) (n : ℕ) → pages_below runs (n + 1) ≡ pages_below runs n ++ filter_map (page_at runs) (n ∷ [])
pages-more runs n =
    ap (filter_map (page_at runs)) (range-more n) ∙ filter_map-append (page_at runs) (range_with_len 0 n) (n ∷ [])

pub one_more : (runs : List PageRun) (n : ℕ) (page : Page) (pages : List Page) → pages ≡ pages_below runs n → page_at runs n ≡ Some page
    → pages ++ page ∷ [] ≡ pages_below runs (n + 1)
one_more runs n page pages so_far h = rw (pages-more runs n, so_far, h) refl

pub none_more : (runs : List PageRun) (n : ℕ) (pages : List Page) → pages ≡ pages_below runs n → page_at runs n ≡ None → pages ≡ pages_below runs (n + 1)
none_more runs n pages so_far h = rw (pages-more runs n, h) (so_far ∙ sym (append-nil (pages_below runs n)))

pub whole : (runs : List PageRun) (n : ℕ) (pages : List Page) → n ≡ 256 → pages ≡ pages_below runs n → pages ≡ pages_of runs
unfolding pages_of
whole runs n pages at h = h ∙ ap (pages_below runs) at

-- at most one for each number
pub few : (runs : List PageRun) (n : ℕ) → length (pages_below runs n) ≤ n
few runs n = let size = length-range_with_len 0 n in let fewer = length-kept (page_at runs) (range_with_len 0 n) in omega (arith, size, fewer)
  where
    length-one : (page : Option Page) (pages : List Page) → length (cons_option page pages) ≤ suc (length pages)
    length-one None pages = omega arith
    length-one (Some page) pages = omega arith

    length-kept : (keep : ℕ → Option Page) (ns : List ℕ) → length (filter_map keep ns) ≤ length ns
    length-kept keep [] = omega arith
    length-kept keep (n ∷ ns) =
        let one = length-one (keep n) (filter_map keep ns) in
        let rest = length-kept keep ns in
        omega (arith, one, rest)
