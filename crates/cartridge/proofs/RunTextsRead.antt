-- The text of a run of pages gives the run, and the texts of some runs give those that have a page.
use Rattle.std.proofs.Common.{◌≡◌, ℕ, zero, suc, ◌+◌, ◌-◌, ◌/◌, ◌%◌, ◌<◌, ◌≤◌, ◌==◌, Bool, true, false, List, [], ◌∷◌, ◌++◌, map, Some}
use Rattle.std.proofs.Common.{None, refl, ap, subst, ◌∙◌, arith, le-leb}
use Rattle.std.specs.Prelude.{if◌then◌else◌, not, filter, option_and_then}
use Rattle.std.specs.List.{slice_index}
use Rattle.std.proofs.lemmas.Bool.{eqb-true}
use Rattle.std.proofs.lemmas.Bool.Decides.{nat_tests}
use Rattle.hex.specs.Hex.{encode_with, encode_upper, upper_digits, hex_digit_value}
use Rattle.hex.proofs.HexLemmas.{length-encode_with, IsDigits-upper_digits, decode_of-encode_upper, decode_sized-twice}
use Rattle.toml.specs.Data.{Items, item, string, as_str}
use Rattle.f8_spec.specs.declared.chips.PageSort.{PageSort}
use Rattle.f8_spec.specs.declared.chips.PageSort.TheVariants.{Rom, Ram, Void}
use Rattle.cartridge.specs.declared.page_run.PageRun.{PageRun}
use Rattle.cartridge.specs.PageTexts.{blank, hyphen, sort_word, parted, only_byte, page_number, run_between, range_of, run_of_parts}
use Rattle.cartridge.specs.PageTexts.{run_of_text, each_run}
use Rattle.cartridge.specs.Migrated.{page_digits, range_text, run_text, run_texts}
use Rattle.cartridge.specs.Values.{each}

-- ---- a page

hyphen_apart : (t : Bool) (c d : ℕ) → (c == hyphen) ≡ t → hex_digit_value c ≡ Some d → t ≡ false
hyphen_apart false c d is h = refl
hyphen_apart true c d is h =
    let none : hex_digit_value 45 ≡ Some d = subst (λ (x : ℕ). hex_digit_value x ≡ Some d) (eqb-true c 45 is) h in
    cc none

-- a digit is no hyphen
digit_apart : (n : ℕ) → n < 16 → (slice_index upper_digits n == hyphen) ≡ false
digit_apart n small = hyphen_apart (slice_index upper_digits n == hyphen) (slice_index upper_digits n) n refl (IsDigits-upper_digits n small)

one_byte : (p : ℕ) → p < 256 → (i : ℕ) → slice_index (p ∷ []) i < 256
one_byte p small zero = small
one_byte p small (suc i) = omega arith

page_read : (p : ℕ) → p < 256 → page_number (page_digits p) ≡ Some p
page_read p small =
    ap only_byte (decode_sized-twice (encode_upper (p ∷ [])) 1 (length-encode_with upper_digits (p ∷ []))
    ∙ decode_of-encode_upper (p ∷ []) (one_byte p small))

-- ---- one page, or two with a hyphen between

unparted : (a b : ℕ) → (a == hyphen) ≡ false → (b == hyphen) ≡ false → parted hyphen (a ∷ b ∷ []) ≡ None
unparted a b first second = rw (first, second)

parted_behind : (a b : ℕ) (rest : List ℕ) → (a == hyphen) ≡ false → (b == hyphen) ≡ false
    → parted hyphen (a ∷ b ∷ hyphen ∷ rest) ≡ Some (a ∷ b ∷ [], rest)
parted_behind a b rest first second = rw (first, second)

page_unparted : (p : ℕ) → p < 256 → parted hyphen (page_digits p) ≡ None
unfolding encode_with
page_unparted p small =
    unparted (slice_index upper_digits (p / 16)) (slice_index upper_digits (p % 16)) (digit_apart (p / 16) (omega arith)) (digit_apart (p % 16) (omega arith))

page_parted : (p : ℕ) (rest : List ℕ) → p < 256 → parted hyphen (page_digits p ++ hyphen ∷ rest) ≡ Some (page_digits p, rest)
unfolding encode_with
page_parted p rest small =
    parted_behind (slice_index upper_digits (p / 16)) (slice_index upper_digits (p % 16)) rest
    (digit_apart (p / 16) (omega arith)) (digit_apart (p % 16) (omega arith))

range_at : (t : Bool) (s : PageSort) (first last : ℕ) → (first == last) ≡ t → first < 256 → last < 256 → (text : List ℕ)
    → text ≡ (if t then page_digits first else page_digits first ++ hyphen ∷ page_digits last)
    → range_of s text (parted hyphen text) ≡ run_between s first last
range_at true s first last is low high text e =
    let same : first ≡ last = eqb-true first last is in
    ap (λ (x : List ℕ). range_of s x (parted hyphen x)) e ∙ ap (range_of s (page_digits first)) (page_unparted first low)
    ∙ ap (option_and_then (λ (n : ℕ). run_between s n n)) (page_read first low) ∙ ap (run_between s first) same
range_at false s first last is low high text e =
    ap (λ (x : List ℕ). range_of s x (parted hyphen x)) e
    ∙ ap (range_of s (page_digits first ++ hyphen ∷ page_digits last)) (page_parted first (page_digits last) low)
    ∙ ap (option_and_then (λ (f : ℕ). option_and_then (λ (l : ℕ). run_between s f l) (page_number (page_digits last)))) (page_read first low)
    ∙ ap (option_and_then (λ (l : ℕ). run_between s first l)) (page_read last high)

range_read : (s : PageSort) (first last : ℕ) → first < 256 → last < 256
    → range_of s (range_text first last) (parted hyphen (range_text first last)) ≡ run_between s first last
range_read s first last low high = range_at (first == last) s first last refl low high (range_text first last) refl

-- ---- a run

word_parted : (s : PageSort) (range : List ℕ)
    → run_of_parts (parted blank (sort_word s ++ blank ∷ range)) ≡ range_of s range (parted hyphen range)
word_parted Rom range = refl
word_parted Ram range = refl
word_parted Void range = refl

between : (s : PageSort) (first count : ℕ) → 1 ≤ count → run_between s first (first + count - 1) ≡ Some (record { sort = s; first = first; count = count })
between s first count some =
    let up : first ≤ first + count - 1 = omega arith in
    let size : first + count - 1 - first + 1 ≡ count = omega arith in
    rw (le-leb first (first + count - 1) up) (ap (λ (n : ℕ). Some (record { sort = s; first = first; count = n })) size)

pub run_read : (run : PageRun) → 1 ≤ run.count → run.first + run.count ≤ 256 → run_of_text (run_text run) ≡ Some run
unfolding run_of_text
run_read run some inside =
    word_parted run.sort (range_text run.first (run.first + run.count - 1))
    ∙ range_read run.sort run.first (run.first + run.count - 1) (omega arith) (omega arith)
    ∙ between run.sort run.first run.count some

-- ---- some runs

abbrev pub has_pages : PageRun → Bool
has_pages run = not (run.count == 0)

each_text : (t : Bool) (text : List ℕ) (ds : Items) (texts : List (List ℕ)) → each as_str ds ≡ Some texts
    → each as_str (if t then ds else item (string text) ds) ≡ Some (if t then texts else text ∷ texts)
each_text true text ds texts h = h
each_text false text ds texts h = rw h

map_kept : (t : Bool) (run : PageRun) (kept : List PageRun)
    → (if t then map run_text kept else run_text run ∷ map run_text kept) ≡ map run_text (if not t then run ∷ kept else kept)
map_kept true run kept = refl
map_kept false run kept = refl

pub texts_of_runs : (runs : List PageRun) → each as_str (run_texts runs) ≡ Some (map run_text (filter has_pages runs))
texts_of_runs [] = refl
texts_of_runs (run ∷ runs) =
    each_text (run.count == 0) (run_text run) (run_texts runs) (map run_text (filter has_pages runs)) (texts_of_runs runs)
    ∙ ap Some (map_kept (run.count == 0) run (filter has_pages runs))

-- no page of a run is past the last one
abbrev pub LieInside : List PageRun → Type 0
LieInside [] = Unit {0}
LieInside (run ∷ runs) = (run.first + run.count ≤ 256) × LieInside runs

has_some : (n : ℕ) → not (n == 0) ≡ true → 1 ≤ n
has_some n h = grind (arith, nat_tests)

each_run_kept : (t : Bool) (run : PageRun) (kept : List PageRun) → not (run.count == 0) ≡ t → run.first + run.count ≤ 256
    → each_run (map run_text kept) ≡ Some kept
    → each_run (map run_text (if t then run ∷ kept else kept)) ≡ Some (if t then run ∷ kept else kept)
each_run_kept false run kept is inside h = h
each_run_kept true run kept is inside h = rw (run_read run (has_some run.count is) inside, h)

pub runs_of_texts : (runs : List PageRun) → LieInside runs → each_run (map run_text (filter has_pages runs)) ≡ Some (filter has_pages runs)
runs_of_texts [] inside = refl
runs_of_texts (run ∷ runs) inside =
    each_run_kept (has_pages run) run (filter has_pages runs) refl inside.0 (runs_of_texts runs inside.1)
