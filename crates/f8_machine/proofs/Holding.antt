-- Who holds an address: the page and its place in one chip, the one chip of a list, and a list whose chips have the same pages.
use Rattle.std.proofs.Common.{◌≡◌, ℕ, suc, ◌+◌, ◌*◌, ◌/◌, ◌%◌, ◌<◌, Bool, true, false, List, [], ◌∷◌, map, length, refl}
use Rattle.std.proofs.Common.{sym, ap, subst, ◌∙◌, arith, eqb-true}
use Rattle.std.specs.Prelude.{◌==◌, if◌then◌else◌, Option, Some, None, option_map, is_some, slice_get, slice_index}
use Rattle.std.proofs.lemmas.List.{get_or-set_same, get_or-set_other}
use Rattle.std.proofs.lemmas.Option.{slice_get-map, slice_get_within}
use Rattle.f8_spec.specs.ChipState.{ChipView, place_of, sort_at, holds, byte_in, bytes_with_at, bytes_with}
use Rattle.f8_spec.specs.BusArbitration.{Seat, seat_of}
use Rattle.f8_spec.specs.declared.chips.Page.{Page}
use Rattle.f8_spec.specs.declared.chips.PageSort.{PageSort}
use Rattle.console_spec.specs.AddressSpace.{byte_at}
use Rattle.console_spec.specs.FlatMemory.{sort_among, sort_of}
use Rattle.f8_machine.specs.RackViews.{HeldOnce, HoldsFlat}
use Rattle.f8_machine.proofs.Kept.{keeps_one, Comes, comes}

-- ---- the place of a page

-- the page at the place of a number has that number
place_number : (pages : List Page) (number place : ℕ) → place_of pages number ≡ Some place →
    option_map (λ p. p.number) (slice_get pages place) ≡ Some number
place_number [] number place found = cc
place_number (p ∷ ps) number place found =
    step (p.number == number) refl (place_of ps number) (place_number ps number) found
  where
    step : (here : Bool) → (p.number == number) ≡ here → (later : Option ℕ) →
        ((k : ℕ) → later ≡ Some k → option_map (λ q. q.number) (slice_get ps k) ≡ Some number) →
        (if here then Some 0 else option_map (λ k. k + 1) later) ≡ Some place →
        option_map (λ q. q.number) (slice_get (p ∷ ps) place) ≡ Some number
    step true is later found_later found =
        let first : 0 ≡ place = cc in
        subst (λ k. option_map (λ (q : Page). q.number) (slice_get (p ∷ ps) k) ≡ Some number) first
        (ap Some (eqb-true p.number number is))
    step false is None found_later found = cc
    step false is (Some k) found_later found =
        let next : suc k ≡ place = let e : k + 1 ≡ place = cc in omega arith in
        subst (λ m. option_map (λ (q : Page). q.number) (slice_get (p ∷ ps) m) ≡ Some number) next (found_later k refl)

-- two numbers have two places
place_apart : (pages : List Page) (a b place : ℕ) → place_of pages a ≡ Some place → place_of pages b ≡ Some place →
    a ≡ b
place_apart pages a b place found_a found_b =
    let same : Some a ≡ Some b = sym (place_number pages a place found_a) ∙ place_number pages b place found_b in
    cc

-- an address in a chip: its page, by its place
pub record Held (pages : List Page) (at : ℕ) : Type 0 where
  pub place : ℕ
  pub page : Page
  pub placed : place_of pages (at / 256) ≡ Some place
  pub lies : slice_get pages place ≡ Some page
  pub within : place < length pages
  pub sorted : sort_at pages at ≡ Some page.sort

-- an address that a chip holds has them
pub held_in : (pages : List Page) (at : ℕ) → is_some (place_of pages (at / 256)) ≡ true → Held pages at
held_in pages at held = step (place_of pages (at / 256)) refl held
  where
    step : (o : Option ℕ) → place_of pages (at / 256) ≡ o → is_some o ≡ true → Held pages at
    step None found held = cc
    step (Some place) found held =
        let page : Comes (λ (p : Page). p.number) (slice_get pages place) (at / 256) =
        comes (λ p. p.number) (slice_get pages place) (at / 256) (place_number pages (at / 256) place found) in
        record {
          place = place;
          page = page.from;
          placed = found;
          lies = page.is;
          within = slice_get_within pages place page.from page.is;
          sorted = rw found (ap (option_map (λ (p : Page). p.sort)) page.is);
        }

-- an address that a chip doesn't hold has no sort there
unheld_unsorted : (pages : List Page) (at : ℕ) → is_some (place_of pages (at / 256)) ≡ false → sort_at pages at ≡ None
unheld_unsorted pages at unheld = step (place_of pages (at / 256)) refl unheld
  where
    step : (o : Option ℕ) → place_of pages (at / 256) ≡ o → is_some o ≡ false → sort_at pages at ≡ None
    step None found unheld = rw found refl
    step (Some place) found unheld = cc

-- ---- a byte that is stored

-- the byte at the address is the one stored
pub byte_in-bytes_with_same : (pages : List Page) (bytes : List ℕ) (at byte : ℕ) → length bytes ≡ length pages * 256 →
    Held pages at →
    byte_in pages (bytes_with pages bytes at byte) at ≡ Some byte
byte_in-bytes_with_same pages bytes at byte filled held =
    let few : held.place < length pages = held.within in
    let within : held.place * 256 + at % 256 < length bytes = omega arith in
    rw held.placed (ap Some (get_or-set_same bytes (held.place * 256 + at % 256) byte 0 within))

-- the byte at another address stays
pub byte_in-bytes_with_other : (pages : List Page) (bytes : List ℕ) (at byte other : ℕ) → (other ≡ at → ⊥) →
    byte_in pages (bytes_with pages bytes at byte) other ≡ byte_in pages bytes other
byte_in-bytes_with_other pages bytes at byte other apart =
    step (place_of pages (at / 256)) (place_of pages (other / 256)) refl refl
  where
    step : (own place : Option ℕ) → place_of pages (at / 256) ≡ own → place_of pages (other / 256) ≡ place →
        option_map (λ i. slice_index (bytes_with_at bytes at byte own) (i * 256 + other % 256)) place
        ≡ option_map (λ i. slice_index bytes (i * 256 + other % 256)) place
    step None place own_is place_is = refl
    step (Some i) None own_is place_is = refl
    step (Some i) (Some j) own_is place_is = ap Some
        (get_or-set_other bytes (i * 256 + at % 256) (j * 256 + other % 256) byte 0 elsewhere)
      where
        elsewhere : j * 256 + other % 256 ≡ i * 256 + at % 256 → ⊥
        elsewhere e =
            let same_place : j ≡ i = omega arith in
            let same_number : other / 256 ≡ at / 256 =
            place_apart pages (other / 256) (at / 256) i
            (subst (λ k. place_of pages (other / 256) ≡ Some k) same_place place_is) own_is in
            apart (omega arith)

-- ---- lists of chips

-- where one chip holds an address, no other does
pub not_held : (vs : List ChipView) (at place : ℕ) → HeldOnce vs at place → (j : ℕ) (w : ChipView) →
    slice_get vs j ≡ Some w → (j ≡ place → ⊥) → holds w at ≡ false
not_held vs at place once j w lies other = step (holds w at) refl
  where
    step : (held : Bool) → holds w at ≡ held → held ≡ false
    step true is = absurd (other (once j w lies is))
    step false is = refl

-- the sort of an address that one chip holds is that of its page
pub sort_of-once : (vs : List ChipView) (at place : ℕ) (v : ChipView) → slice_get vs place ≡ Some v →
    HeldOnce vs at place → (sort : PageSort) →
    sort_at v.pages at ≡ Some sort → sort_of (map seat_of vs) at ≡ sort_among (sort ∷ [])
sort_of-once vs at place v lies once sort sorted =
    ap sort_among (keeps_one (λ (s : Seat). sort_at s.pages at) (map seat_of vs) place (seat_of v) sort
    (slice_get-map seat_of vs place ∙ ap (option_map seat_of) lies) sorted others)
  where
    others : (j : ℕ) (s : Seat) → slice_get (map seat_of vs) j ≡ Some s → (j ≡ place → ⊥) → sort_at s.pages at ≡ None
    others j s lies_seat other =
        let chip : Comes seat_of (slice_get vs j) s =
        comes seat_of (slice_get vs j) s (sym (slice_get-map seat_of vs j) ∙ lies_seat) in
        ap (λ (t : Seat). sort_at t.pages at) chip.gives
        ∙ unheld_unsorted chip.from.pages at (not_held vs at place once j chip.from chip.is other)

-- Chips with the same seats hold the same addresses. So a list of them holds a flat memory where each byte that one chip holds alone is
-- that memory's.
module _ (vs ws : List ChipView) (seats : map seat_of ws ≡ map seat_of vs) where
  -- the chip at the same place
  counterpart : (k : ℕ) (w : ChipView) → slice_get ws k ≡ Some w → Comes seat_of (slice_get vs k) (seat_of w)
  counterpart k w lies = comes seat_of (slice_get vs k) (seat_of w) (
      sym (slice_get-map seat_of vs k) ∙ ap (λ ss. slice_get ss k) (sym seats) ∙ slice_get-map seat_of ws k
      ∙ ap (option_map seat_of) lies)

  -- and back
  counterpart_back : (k : ℕ) (v : ChipView) → slice_get vs k ≡ Some v → Comes seat_of (slice_get ws k) (seat_of v)
  counterpart_back k v lies = comes seat_of (slice_get ws k) (seat_of v) (
      sym (slice_get-map seat_of ws k) ∙ ap (λ ss. slice_get ss k) seats ∙ slice_get-map seat_of vs k
      ∙ ap (option_map seat_of) lies)

  -- an address that one of them holds alone is held alone by its counterpart
  held_once_back : (at place : ℕ) → HeldOnce ws at place → HeldOnce vs at place
  held_once_back at place once j v lies held =
      let w = counterpart_back j v lies in
      once j w.from w.is (ap (λ (s : Seat). is_some (place_of s.pages (at / 256))) (sym w.gives) ∙ held)

  -- the flat memory of such a list
  pub holds_flat_by : (memory : List ℕ) → ((place : ℕ) (v w : ChipView) (at : ℕ) → at < 65536 →
      slice_get vs place ≡ Some v → slice_get ws place ≡ Some w →
      holds v at ≡ true → HeldOnce vs at place → byte_in v.pages w.bytes at ≡ Some (byte_at memory at)) →
      HoldsFlat memory ws
  holds_flat_by memory says place w at small lies held once =
      let v = counterpart place w lies in
      let pages : w.pages ≡ v.from.pages = ap (λ (s : Seat). s.pages) v.gives in
      let held_before : holds v.from at ≡ true =
      ap (λ (s : Seat). is_some (place_of s.pages (at / 256))) (sym v.gives) ∙ held in
      ap (λ ps. byte_in ps w.bytes at) pages ∙ says place v.from w at small v.is lies held_before
      (held_once_back at place once)
