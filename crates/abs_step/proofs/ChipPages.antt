-- What one chip alone holds has a byte there; and whether some page has several holders, by its first address.
use Rattle.std.proofs.Common.{◌≡◌, ℕ, zero, suc, ◌+◌, ◌*◌, ◌/◌, ◌<◌, Bool, true, false}
use Rattle.std.proofs.Common.{◌||◌, List, [], ◌∷◌, length, map, refl, ap, sym, ◌∙◌, arith}
use Rattle.std.specs.Prelude.{Option, Some, None, is_some, option_map, option_and_then, slice_get, filter_map}
use Rattle.std.specs.List.{list_any, range_with_len, cons_option}
use Rattle.f8_spec.specs.ChipState.{ChipView, place_of, sort_at, held_byte}
use Rattle.f8_spec.specs.BusArbitration.{Seat, seat_of}
use Rattle.f8_spec.specs.declared.chips.Page.{Page}
use Rattle.f8_spec.specs.declared.chips.PageSort.{PageSort}
use Rattle.f8_spec.specs.declared.chips.PageSort.TheVariants.{Rom as RomPage, Ram as RamPage, Void as VoidPage}
use Rattle.console_spec.specs.FlatMemory.{sort_among, sort_of, only_of}
use Rattle.console_spec.specs.declared.Sort.{Sort}
use Rattle.console_spec.specs.declared.Sort.TheVariants.{Rom, Ram, Void, Nothing, Shared}
use Rattle.memory_map.specs.MapKinds.{is_held_once, Overlap}
use Rattle.abs_step.specs.MapView.{is_shared, has_shared_page}
use Rattle.abs_step.proofs.Holders.{seat_sorted}

-- ---- the byte of a holder

one_more : {A B : Type 0} (o : Option A) (p : Option B) (xs : List A) (ys : List B) → is_some o ≡ is_some p → length xs ≡ length ys →
    length (cons_option o xs) ≡ length (cons_option p ys)
one_more None None xs ys same rest = rest
one_more None (Some y) xs ys same rest = absurd (cc)
one_more (Some x) None xs ys same rest = absurd (cc)
one_more (Some x) (Some y) xs ys same rest = omega (arith, rest)

has_byte : (v : ChipView) (at : ℕ) → is_some (sort_at v.pages at) ≡ is_some (held_byte v at)
has_byte v at = sym (seat_sorted (seat_of v) at) ∙ by (place_of v.pages (at / 256)) _
  where
    by : (o : Option ℕ) (f : ℕ → ℕ) → is_some o ≡ is_some (option_map f o)
    by None f = refl
    by (Some place) f = refl

-- as many chips have a byte at an address as have a sort there
as_many : (at : ℕ) (vs : List ChipView) →
    length (filter_map (λ (s : Seat). sort_at s.pages at) (map seat_of vs)) ≡ length (filter_map (λ (v : ChipView). held_byte v at) vs)
as_many at [] = refl
as_many at (v ∷ vs) = one_more (sort_at v.pages at) (held_byte v at) _ _ (has_byte v at) (as_many at vs)

one_sort : (ss : List PageSort) → is_held_once (sort_among ss) ≡ true → length ss ≡ 1
one_sort [] once = absurd (cc)
one_sort (s ∷ []) once = omega arith
one_sort (RomPage ∷ (t ∷ ss)) once = absurd (cc)
one_sort (RamPage ∷ (t ∷ ss)) once = absurd (cc)
one_sort (VoidPage ∷ (t ∷ ss)) once = absurd (cc)

one_only : {A : Type 0} (xs : List A) → length xs ≡ 1 → is_some (only_of xs) ≡ true
one_only [] one = absurd (omega (arith, one))
one_only (x ∷ []) one = refl
one_only (x ∷ (y ∷ xs)) one = absurd (omega (arith, one))

pub byte_of_one : (at : ℕ) (vs : List ChipView) → is_held_once (sort_of (map seat_of vs) at) ≡ true →
    is_some (only_of (filter_map (λ (v : ChipView). held_byte v at) vs)) ≡ true
byte_of_one at vs once = one_only _ (sym (as_many at vs) ∙ one_sort _ once)

-- ---- pages with several holders

shared_is : (s : Sort) → is_shared s ≡ true → s ≡ Shared
shared_is Rom is = absurd (cc)
shared_is Ram is = absurd (cc)
shared_is Void is = absurd (cc)
shared_is Nothing is = absurd (cc)
shared_is Shared is = refl

-- an address is what the first of its page is
sort_in : List Seat → ℕ → Sort
sort_in seats number = sort_among (filter_map (λ (s : Seat).
    option_and_then (λ place. option_map (λ (p : Page). p.sort) (slice_get s.pages place)) (place_of s.pages number)) seats)

sort_of_page : (seats : List Seat) (at : ℕ) → sort_of seats (at / 256 * 256) ≡ sort_of seats at
unfolding sort_in
sort_of_page seats at = let page : at / 256 * 256 / 256 ≡ at / 256 = omega arith in ap (sort_in seats) page

some_in : (test : ℕ → Bool) (start n k number : ℕ) → k < n → number ≡ start + k → test number ≡ true →
    list_any test (range_with_len start n) ≡ true
some_in test start zero k number small same holds = absurd (omega (arith, small))
some_in test start (suc n) zero number small same holds =
    let here : number ≡ start = omega arith in
    rw (rw here at holds) refl
some_in test start (suc n) (suc k) number small same holds =
    either (test start) (some_in test (start + 1) n k number (omega arith) (omega arith) holds)
  where
    either : (b : Bool) {r : Bool} → r ≡ true → (b || r) ≡ true
    either true holds = refl
    either false holds = holds

found_in : (test : ℕ → Bool) (start n : ℕ) → list_any test (range_with_len start n) ≡ true →
    (number : ℕ) × (number < start + n) × (test number ≡ true)
found_in test start zero some = absurd (cc)
found_in test start (suc n) some = by (test start) refl some (found_in test (start + 1) n)
  where
    by : (b : Bool) → test start ≡ b → (b || list_any test (range_with_len (start + 1) n)) ≡ true →
        (list_any test (range_with_len (start + 1) n) ≡ true → (number : ℕ) × (number < start + 1 + n) × (test number ≡ true)) →
        (number : ℕ) × (number < start + suc n) × (test number ≡ true)
    by true is some later = (start, omega arith, is)
    by false is some later =
        let found = later some in
        let small = found.1 in
        (found.0, omega (arith, small), found.2)

pub page_of_shared : (seats : List Seat) (at : ℕ) → at < 65536 → sort_of seats at ≡ Shared → has_shared_page seats ≡ true
page_of_shared seats at small shared =
    let first : sort_of seats (at / 256 * 256) ≡ Shared = sort_of_page seats at ∙ shared in
    some_in (λ number. is_shared (sort_of seats (number * 256))) 0 256 (at / 256) (at / 256) (omega arith) (omega arith)
    (ap is_shared first)

pub shared_of_page : (seats : List Seat) → has_shared_page seats ≡ true → Overlap seats
shared_of_page seats some =
    let found = found_in (λ number. is_shared (sort_of seats (number * 256))) 0 256 some in
    let small = found.1 in
    (found.0 * 256, omega (arith, small), shared_is (sort_of seats (found.0 * 256)) found.2)
