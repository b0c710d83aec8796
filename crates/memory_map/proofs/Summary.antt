-- What holds of all addresses together, by the pages of the map; and of some chip, by the chips that are fitted.
use Rattle.std.proofs.Common.{◌≡◌, ℕ, suc, ◌+◌, ◌*◌, ◌/◌, ◌<◌, Bool, true, false, List, [], ◌∷◌, length, get_or, refl, ap, sym, ◌∙◌, ap₂}
use Rattle.std.proofs.Common.{arith}
use Rattle.std.specs.Prelude.{◌&&◌, ◌||◌, ◌↔◌, IsTrue, filter_map, slice_index_or, Option, None}
use Rattle.std.specs.List.{cons_option, list_any, list_all, range_with_len}
use Rattle.std.proofs.lemmas.List.Folds.{list_any_at, list_all_at}
use Rattle.f8_spec.specs.ChipState.{ChipView}
use Rattle.f8_spec.specs.BusArbitration.{Seat, seat_of}
use Rattle.f8_spec.specs.declared.chips.PageSort.TheVariants.{Rom, Ram, Void}
use Rattle.console_spec.specs.FlatMemory.{sort_of}
use Rattle.console_spec.specs.declared.Sort.TheVariants.{Shared as ManyChips}
use Rattle.chip_face.specs.Fitting.{fitted}
use Rattle.chip_face.specs.declared.specification.ChipSpec.{ChipSpec}
use Rattle.memory_map.specs.MapEntries.{is_held, is_held_once, is_shared}
use Rattle.memory_map.specs.MapKinds.{is_held as is_sort_held, is_held_once as is_sort_held_once, IsCovered, Overlap}
use Rattle.memory_map.specs.MapOf.{MapTable, entry_at, mapped_held_everywhere, mapped_sort, sort_by, seats_of, views_of}
use Rattle.memory_map.specs.declared.entry.Entry.{Entry}
use Rattle.memory_map.specs.declared.entry.Entry.TheVariants.{Nothing, Held, Shared}

-- ---- some chip

pub any-seats : (test : Seat → Bool) (chips : List ChipSpec) →
    list_any (λ chip. test (seat_of (fitted None chip))) chips ≡ list_any test (seats_of chips)
any-seats test [] = refl
any-seats test (chip ∷ chips) = ap (λ later. test (seat_of (fitted None chip)) || later) (any-seats test chips)

pub any-views : (test : ChipView → Bool) (chips : List ChipSpec) →
    list_any (λ chip. test (fitted None chip)) chips ≡ list_any test (views_of chips)
any-views test [] = refl
any-views test (chip ∷ chips) = ap (λ later. test (fitted None chip) || later) (any-views test chips)

pub told-views : (told : ChipView → Option ℕ) (chips : List ChipSpec) →
    filter_map (λ chip. told (fitted None chip)) chips ≡ filter_map told (views_of chips)
told-views told [] = refl
told-views told (chip ∷ chips) = ap (λ later. cons_option (told (fitted None chip)) later) (told-views told chips)

-- ---- lists and tests

module _ {A : Type 0} (test : A → Bool) where
  all_from : (xs : List A) (d : A) → ((i : ℕ) → i < length xs → test (get_or xs i d) ≡ true) → list_all test xs ≡ true
  all_from [] d each = refl
  all_from (x ∷ xs) d each = rw (each 0 (omega arith)) (all_from xs d (λ i within. each (suc i) (omega arith)))

  each_of : (xs : List A) (i : ℕ) (d : A) → list_all test xs ≡ true → i < length xs → test (get_or xs i d) ≡ true
  each_of xs i d all within = by (test (get_or xs i d)) refl
    where
      by : (b : Bool) → test (get_or xs i d) ≡ b → b ≡ true
      by true is = refl
      by false is = let none : list_all test xs ≡ false = list_all_at test xs i d within is in absurd (cc)

  one_of : (xs : List A) (d : A) → list_any test xs ≡ true → (i : ℕ) × ((i < length xs) × (test (get_or xs i d) ≡ true))
  one_of [] d some = absurd (cc)
  one_of (x ∷ xs) d some = by (test x) refl (λ later. one_of xs d later)
    where
      by : (b : Bool) → test x ≡ b → (list_any test xs ≡ true → (i : ℕ) × ((i < length xs) × (test (get_or xs i d) ≡ true))) →
          (i : ℕ) × ((i < length (x ∷ xs)) × (test (get_or (x ∷ xs) i d) ≡ true))
      by true is rest = (0, (omega arith, is))
      by false is rest =
          let later : list_any test xs ≡ true = rw is at some in
          let found = rest later in
          (suc found.0, (omega (arith, found.1.0), found.1.1))

-- ---- the pages of the map

held_once-sort_by : (entry : Entry) → is_sort_held_once (sort_by entry) ≡ is_held_once entry
held_once-sort_by Nothing = refl
held_once-sort_by (Held Rom owner) = refl
held_once-sort_by (Held Ram owner) = refl
held_once-sort_by (Held Void owner) = refl
held_once-sort_by Shared = refl

shared-from_sort : (entry : Entry) → sort_by entry ≡ ManyChips → is_shared entry ≡ true
shared-from_sort Nothing same = absurd (cc)
shared-from_sort (Held Rom owner) same = absurd (cc)
shared-from_sort (Held Ram owner) same = absurd (cc)
shared-from_sort (Held Void owner) same = absurd (cc)
shared-from_sort Shared same = refl

sort-from_shared : (entry : Entry) → is_shared entry ≡ true → sort_by entry ≡ ManyChips
sort-from_shared Nothing same = absurd (cc)
sort-from_shared (Held sort owner) same = absurd (cc)
sort-from_shared Shared same = refl

held-sort_by : (entry : Entry) → is_sort_held (sort_by entry) ≡ is_held entry
held-sort_by Nothing = refl
held-sort_by (Held Rom owner) = refl
held-sort_by (Held Ram owner) = refl
held-sort_by (Held Void owner) = refl
held-sort_by Shared = refl

-- the sort of each address is that of its page in the map
pub record SortsBy (seats : List Seat) (pages : List Entry) : Type 0 where
  pub size : length pages ≡ 256
  pub sort : (at : ℕ) → at < 65536 → sort_of seats at ≡ sort_by (slice_index_or pages (at / 256) Nothing)

-- the first address of a page
sort_of_page : (seats : List Seat) (pages : List Entry) (number : ℕ) → SortsBy seats pages → number < 256 →
    sort_of seats (number * 256) ≡ sort_by (slice_index_or pages number Nothing)
sort_of_page seats pages number sorts within =
    let page : number * 256 / 256 ≡ number = omega arith in
    sorts.sort (number * 256) (omega arith) ∙ ap (λ n. sort_by (slice_index_or pages n Nothing)) page

pub covered_by : (seats : List Seat) (pages : List Entry) → SortsBy seats pages → IsTrue (list_all is_held_once pages) ↔ IsCovered seats
covered_by seats pages sorts = (
  λ all at within.
      let in_table : at / 256 < length pages = let size = sorts.size in omega arith in
      ap is_sort_held_once (sorts.sort at within) ∙ held_once-sort_by (slice_index_or pages (at / 256) Nothing)
      ∙ each_of is_held_once pages (at / 256) Nothing all in_table,
  λ covered. all_from is_held_once pages Nothing (λ number in_table.
      let within : number < 256 = let size = sorts.size in omega arith in
      sym (held_once-sort_by (slice_index_or pages number Nothing)) ∙ ap is_sort_held_once (sym (sort_of_page seats pages number sorts within))
      ∙ covered (number * 256) (omega arith)),
)

pub overlap_by : (seats : List Seat) (pages : List Entry) → SortsBy seats pages → IsTrue (list_any is_shared pages) ↔ Overlap seats
overlap_by seats pages sorts = (
  λ some.
      let found = one_of is_shared pages Nothing some in
      let within : found.0 < 256 = let size = sorts.size in omega (arith, found.1.0) in (
        found.0 * 256,
        omega arith,
        sort_of_page seats pages found.0 sorts within
            ∙ sort-from_shared (slice_index_or pages found.0 Nothing) found.1.1,
      ),
  λ overlap.
      let in_table : overlap.0 / 256 < length pages = let size = sorts.size in omega (arith, overlap.1) in
      list_any_at is_shared pages (overlap.0 / 256) Nothing in_table
      (shared-from_sort (slice_index_or pages (overlap.0 / 256) Nothing) (sym (sorts.sort overlap.0 overlap.1) ∙ overlap.2)),
)

-- ---- all pages are held

-- a test of each element is one of each place
each_place : {A : Type 0} (test : A → Bool) (d : A) (by : ℕ → Bool) (start : ℕ) (xs : List A) →
    ((k : ℕ) → k < length xs → by (start + k) ≡ test (slice_index_or xs k d)) →
    list_all by (range_with_len start (length xs)) ≡ list_all test xs
each_place test d by start [] same = refl
each_place test d by start (x ∷ xs) same =
    let none : start + 0 ≡ start = omega arith in
    let first : by start ≡ test x = rw none at (same 0 (omega arith)) in
    ap₂ (λ (a : Bool) (b : Bool). a && b) first
    (each_place test d by (start + 1) xs
    (λ k within. let on : start + 1 + k ≡ start + suc k = omega arith in rw on (same (suc k) (omega arith))))

pub everywhere_by : (m : MapTable) → length m.pages ≡ 256 → mapped_held_everywhere m ≡ list_all is_held m.pages
unfolding mapped_held_everywhere mapped_sort
everywhere_by m size =
    ap (λ n. list_all (λ number. is_sort_held (mapped_sort m (number * 256))) (range_with_len 0 n)) (sym size)
    ∙ each_place is_held Nothing (λ number. is_sort_held (mapped_sort m (number * 256))) 0 m.pages
    (λ k within.
    let page : (0 + k) * 256 / 256 ≡ k = omega arith in
    held-sort_by (entry_at m ((0 + k) * 256)) ∙ ap (λ n. is_held (slice_index_or m.pages n Nothing)) page)
