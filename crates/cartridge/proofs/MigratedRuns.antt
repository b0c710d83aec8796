-- Runs of pages without those that have no page: they lie apart as before, and have the same pages.
use Rattle.std.proofs.Common.{◌≡◌, ℕ, ◌+◌, ◌≤◌, ◌==◌, Bool, true, false, ◌&&◌, List, [], ◌∷◌, ◌++◌, length, map, Ok, refl, sym, ap, ◌∙◌}
use Rattle.std.proofs.Common.{arith}
use Rattle.std.specs.Prelude.{All, if◌then◌else◌, nat_le, not, filter, filter_map, find}
use Rattle.std.specs.List.{list_all, range_with_len}
use Rattle.std.proofs.lemmas.Bool.{and_parts, leb-true}
use Rattle.std.proofs.lemmas.Bool.Decides.{nat_tests}
use Rattle.std.proofs.lemmas.List.{append-nil}
use Rattle.std.proofs.lemmas.List.Elements.{All-nil, All-cons, filter-append}
use Rattle.toml.specs.Data.{Members, array}
use Rattle.f8_spec.specs.declared.chips.PageSort.{PageSort}
use Rattle.f8_spec.specs.declared.chips.PageSort.TheVariants as sort
use Rattle.cartridge.specs.declared.keys.Key.{Key}
use Rattle.cartridge.specs.declared.keys.Key.TheVariants.{RomPage, RomPages, RamPage, RamPages, VoidPage, VoidPages}
use Rattle.cartridge.specs.declared.page_run.PageRun.{PageRun}
use Rattle.cartridge.specs.declared.refusal.CartCause.TheVariants.{Boundary}
use Rattle.cartridge.specs.Values.{usually, number_in}
use Rattle.cartridge.specs.Pages.{lies_within, lie_apart, run_apart, run_at, has_page, page_at, pages_of}
use Rattle.cartridge.specs.PageTexts.{runs_apart, runs_in, few_texts}
use Rattle.cartridge.specs.ChipTables.{three_runs}
use Rattle.cartridge.specs.Migrated.{run_text, run_texts}
use Rattle.cartridge.proofs.Answered.{bind-ok, if-ok, at_key-ok}
use Rattle.cartridge.proofs.RunTextsRead.{has_pages, texts_of_runs, LieInside, runs_of_texts}

-- ---- they lie apart

pub apart-same : (earlier : List PageRun) (asked run : PageRun) → run_apart earlier asked ≡ Ok run → asked ≡ run
apart-same earlier asked run h = (if-ok (lies_within asked && list_all (lie_apart asked) earlier) asked run Boundary h).1

all_kept_at : (t : Bool) (p : PageRun → Bool) (run : PageRun) (kept : List PageRun) → p run ≡ true → list_all p kept ≡ true
    → list_all p (if t then run ∷ kept else kept) ≡ true
all_kept_at true p run kept here more = rw (here, more)
all_kept_at false p run kept here more = more

all_kept : (p : PageRun → Bool) (runs : List PageRun) → list_all p runs ≡ true → list_all p (filter has_pages runs) ≡ true
all_kept p [] h = refl
all_kept p (run ∷ runs) h =
    let (here, more) = and_parts (p run) (list_all p runs) h in
    all_kept_at (has_pages run) p run (filter has_pages runs) here (all_kept p runs more)

fits : (earlier : List PageRun) (run : PageRun) → lies_within run ≡ true → list_all (lie_apart run) earlier ≡ true → run_apart earlier run ≡ Ok run
fits earlier run within apart = rw (within, apart)

apart_kept : (earlier : List PageRun) (run found : PageRun) → run_apart earlier run ≡ Ok found → run_apart (filter has_pages earlier) run ≡ Ok run
apart_kept earlier run found h =
    let (within, apart) = and_parts (lies_within run) (list_all (lie_apart run) earlier)
    (if-ok (lies_within run && list_all (lie_apart run) earlier) run found Boundary h).0 in
    fits (filter has_pages earlier) run within (all_kept (lie_apart run) earlier apart)

kept_next : (t : Bool) (earlier : List PageRun) (run : PageRun) (runs all : List PageRun) → run_apart earlier run ≡ Ok run
    → runs_apart (earlier ++ (if t then run ∷ [] else [])) runs ≡ Ok all → runs_apart earlier (if t then run ∷ runs else runs) ≡ Ok all
kept_next true earlier run runs all here more = rw (here, more)
kept_next false earlier run runs all here more = ap (λ (es : List PageRun). runs_apart es runs) (sym (append-nil earlier)) ∙ more

-- what lies apart lies apart without the runs that have no page
pub apart_all_kept : (earlier runs all : List PageRun) → runs_apart earlier runs ≡ Ok all
    → runs_apart (filter has_pages earlier) (filter has_pages runs) ≡ Ok (filter has_pages all)
apart_all_kept earlier [] all h = let same : earlier ≡ all = cc h in rw (← same)
apart_all_kept earlier (run ∷ runs) all h =
    bind-ok (runs_apart (filter has_pages earlier) (filter has_pages (run ∷ runs)) ≡ Ok (filter has_pages all)) (run_apart earlier run) _ all h
    (λ found at_run more.
    kept_next (has_pages run) (filter has_pages earlier) run (filter has_pages runs) (filter has_pages all) (apart_kept earlier run found at_run)
    (ap (λ (es : List PageRun). runs_apart es (filter has_pages runs)) (sym (filter-append has_pages earlier (run ∷ [])))
    ∙ apart_all_kept (earlier ++ run ∷ []) runs all more))

-- ---- their pages

no_page : (first count n : ℕ) → not (count == 0) ≡ false → (nat_le first n && nat_le (n + 1) (first + count)) ≡ false
no_page first count n none = grind (arith, nat_tests)

found_kept : (t : Bool) (n : ℕ) (run : PageRun) (runs kept : List PageRun) → (t ≡ false → has_page n run ≡ false)
    → find (has_page n) kept ≡ find (has_page n) runs
    → find (has_page n) (if t then run ∷ kept else kept) ≡ find (has_page n) (run ∷ runs)
found_kept true n run runs kept none h = rw h
found_kept false n run runs kept none h = rw (none refl, h)

find_kept : (n : ℕ) (runs : List PageRun) → find (has_page n) (filter has_pages runs) ≡ find (has_page n) runs
find_kept n [] = refl
find_kept n (run ∷ runs) =
    found_kept (has_pages run) n run runs (filter has_pages runs) (λ none. no_page run.first run.count n none) (find_kept n runs)

pages_kept : (runs : List PageRun) (ns : List ℕ) → filter_map (page_at (filter has_pages runs)) ns ≡ filter_map (page_at runs) ns
pages_kept runs [] = refl
pages_kept runs (n ∷ ns) = rw (find_kept n runs, pages_kept runs ns)

pub pages_of_kept : (runs : List PageRun) → pages_of (filter has_pages runs) ≡ pages_of runs
unfolding pages_of
pages_of_kept runs = pages_kept runs (range_with_len 0 256)

-- ---- the three runs of a table

pub record AreRuns (runs : List PageRun) : Type 0 where
  pub apart : runs_apart [] runs ≡ Ok runs
  pub inside : LieInside runs
  pub few : length runs ≤ 256

lies_inside : (earlier : List PageRun) (run found : PageRun) → run_apart earlier run ≡ Ok found → run.first + run.count ≤ 256
lies_inside earlier run found h =
    leb-true (run.first + run.count) 256 (and_parts (lies_within run) (list_all (lie_apart run) earlier)
    (if-ok (lies_within run && list_all (lie_apart run) earlier) run found Boundary h).0).0

run_at-apart : (s : PageSort) (first_key count_key : Key) (earlier : List PageRun) (table : Members) (run : PageRun)
    → run_at s first_key count_key earlier table ≡ Ok run → run_apart earlier run ≡ Ok run
run_at-apart s first_key count_key earlier table run h =
    bind-ok (run_apart earlier run ≡ Ok run) (usually first_key 0 (number_in 0 255) table) _ run h (λ first at_first h.
    bind-ok (run_apart earlier run ≡ Ok run) (usually count_key 0 (number_in 0 256) table) _ run h (λ count at_count h.
    let asked : PageRun = record { sort = s; first = first; count = count } in
    let e : run_apart earlier asked ≡ Ok run = at_key-ok count_key (run_apart earlier asked) run h in
    let same : asked ≡ run = apart-same earlier asked run e in
    ap (run_apart earlier) (sym same) ∙ e))

three_apart : (rom ram void : PageRun) → run_apart [] rom ≡ Ok rom → run_apart (rom ∷ []) ram ≡ Ok ram → run_apart (rom ∷ ram ∷ []) void ≡ Ok void
    → AreRuns (rom ∷ ram ∷ void ∷ [])
three_apart rom ram void first second third =
    record {
      apart = rw (first, second, third);
      inside = (lies_inside [] rom rom first, (lies_inside (rom ∷ []) ram ram second, (lies_inside (rom ∷ ram ∷ []) void void third, tt)));
      few = omega arith;
    }

pub three_runs-apart : (table : Members) (runs : List PageRun) → three_runs table ≡ Ok runs → AreRuns runs
three_runs-apart table runs h =
    bind-ok (AreRuns runs) (run_at sort.Rom RomPage RomPages [] table) _ runs h (λ rom at_rom h.
    bind-ok (AreRuns runs) (run_at sort.Ram RamPage RamPages (rom ∷ []) table) _ runs h (λ ram at_ram h.
    bind-ok (AreRuns runs) (run_at sort.Void VoidPage VoidPages (rom ∷ ram ∷ []) table) _ runs h (λ void at_void h.
    let same : rom ∷ ram ∷ void ∷ [] ≡ runs = cc h in
    rw (← same) (three_apart rom ram void (run_at-apart sort.Rom RomPage RomPages [] table rom at_rom)
    (run_at-apart sort.Ram RamPage RamPages (rom ∷ []) table ram at_ram)
    (run_at-apart sort.Void VoidPage VoidPages (rom ∷ ram ∷ []) table void at_void)))))

-- ---- the texts of runs

length_kept_at : (t : Bool) (run : PageRun) (kept : List PageRun) (n : ℕ) → length (map run_text kept) ≤ n
    → length (map run_text (if t then run ∷ kept else kept)) ≤ n + 1
length_kept_at true run kept n few = omega arith
length_kept_at false run kept n few = omega arith

length_kept : (runs : List PageRun) → length (map run_text (filter has_pages runs)) ≤ length runs
length_kept [] = omega arith
length_kept (run ∷ runs) =
    let more = length_kept_at (has_pages run) run (filter has_pages runs) (length runs) (length_kept runs) in omega (arith, more)

few_enough : (n most : ℕ) (texts : List (List ℕ)) → length texts ≤ n → n ≤ 256 → few_texts texts ≡ Ok texts
few_enough n most texts short few =
    let fits : nat_le (length texts) 256 ≡ true = grind (arith, nat_tests) in
    rw fits

pub texts_read : (runs : List PageRun) → AreRuns runs → runs_in (array (run_texts runs)) ≡ Ok (filter has_pages runs)
texts_read runs are =
    rw (texts_of_runs runs, few_enough (length runs) 0 (map run_text (filter has_pages runs)) (length_kept runs) are.few, runs_of_texts runs are.inside)
    (apart_all_kept [] runs runs are.apart)

pub inside_all : (runs : List PageRun) → LieInside runs → All (λ run. run.first + run.count ≤ 256) runs
inside_all [] inside = All-nil (λ (run : PageRun). run.first + run.count ≤ 256)
inside_all (run ∷ runs) inside = All-cons (λ (run : PageRun). run.first + run.count ≤ 256) run runs inside.0 (inside_all runs inside.1)
