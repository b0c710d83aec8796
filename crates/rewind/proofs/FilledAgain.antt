-- Power-on fills the RAM of a chip: what was there before, by a store or by another power-on, makes no difference.
use Rattle.std.proofs.Common.{◌≡◌, ℕ, zero, suc, ◌+◌, ◌*◌, ◌/◌, ◌%◌, ◌<◌, ◌≤◌, Bool, true, false, List, [], ◌∷◌, ◌++◌}
use Rattle.std.proofs.Common.{length, take, drop, refl, ap, ap₂, ◌∙◌, arith, length-drop}
use Rattle.std.specs.Prelude.{if◌then◌else◌, Option, Some, None, replicate, slice_get, slice_set, is_some}
use Rattle.std.proofs.lemmas.List.{take-set-le, drop-set-lt, drop-set-add, length-replicate, length-take-le}
use Rattle.f8_spec.specs.ChipState.{bytes_with, bytes_with_at, filled_bytes, is_ram, is_sort_at, place_of}
use Rattle.f8_spec.specs.declared.chips.Page.{Page}
use Rattle.f8_spec.specs.declared.chips.PageSort.{PageSort}
use Rattle.f8_machine.proofs.Holding.{Held, held_in}

-- ---- a store

-- a byte of a RAM page that was changed
filled_set : (fill : ℕ) (pages : List Page) (bytes : List ℕ) (place : ℕ) (p : Page) (i n byte : ℕ) →
    slice_get pages place ≡ Some p → is_ram p.sort ≡ true → i < 256 → n ≡ place * 256 + i →
    filled_bytes fill pages (slice_set bytes n byte) ≡ filled_bytes fill pages bytes
filled_set fill [] bytes place p i n byte lies ram below e = cc
filled_set fill (q ∷ ps) bytes zero p i n byte lies ram below e =
    let same : q ≡ p = cc in
    let ram_here : is_ram q.sort ≡ true = ap (λ (r : Page). is_ram r.sort) same ∙ ram in
    rw ram_here (ap (λ later. replicate 256 fill ++ filled_bytes fill ps later)
    (drop-set-lt 256 bytes n byte (omega arith)))
filled_set fill (q ∷ ps) bytes (suc place) p i n byte lies ram below e =
    let there : n ≡ 256 + (place * 256 + i) = omega arith in
    let later : drop 256 (slice_set bytes n byte) ≡ slice_set (drop 256 bytes) (place * 256 + i) byte =
    ap (λ k. drop 256 (slice_set bytes k byte)) there ∙ drop-set-add 256 bytes (place * 256 + i) byte in
    ap₂ (λ own rest. (if is_ram q.sort then replicate 256 fill else own) ++ rest)
    (take-set-le 256 bytes n byte (omega arith))
    (ap (filled_bytes fill ps) later ∙ filled_set fill ps (drop 256 bytes) place p i (place * 256 + i) byte lies ram below refl)

-- the page of an address in RAM is RAM
ram_page : (sort : PageSort) → is_some (if is_ram sort then Some sort else None) ≡ true → is_ram sort ≡ true
ram_page sort is = step (is_ram sort) is
  where
    step : (ram : Bool) → is_some (if ram then Some sort else None) ≡ true → ram ≡ true
    step true is = refl
    step false is = cc

pub filled_stored : (fill : ℕ) (pages : List Page) (bytes : List ℕ) (at byte : ℕ) → is_sort_at is_ram pages at ≡ true →
    filled_bytes fill pages (bytes_with pages bytes at byte) ≡ filled_bytes fill pages bytes
filled_stored fill pages bytes at byte ram = by (place_of pages (at / 256)) refl
  where
    by : (o : Option ℕ) → place_of pages (at / 256) ≡ o →
        filled_bytes fill pages (bytes_with_at bytes at byte (place_of pages (at / 256))) ≡ filled_bytes fill pages bytes
    by None is = rw is refl
    by (Some place) is =
        let held : Held pages at = held_in pages at (ap is_some is) in
        let sorted : is_some (if is_ram held.page.sort then Some held.page.sort else None) ≡ true =
        rw held.sorted at ram in
        rw held.placed (filled_set fill pages bytes held.place held.page (at % 256) (held.place * 256 + at % 256) byte held.lies
        (ram_page held.page.sort sorted) (omega arith) refl)

-- ---- another power-on

-- a page at power-on has as many bytes
length-own : (ram : Bool) (fill : ℕ) (bytes : List ℕ) → 256 ≤ length bytes →
    length (if ram then replicate 256 fill else take 256 bytes) ≡ 256
length-own true fill bytes whole = length-replicate 256 fill
length-own false fill bytes whole = length-take-le 256 bytes whole

take_first : (n : ℕ) (xs ys : List ℕ) → length xs ≡ n → take n (xs ++ ys) ≡ xs
take_first zero [] ys e = refl
take_first zero (x ∷ xs) ys e = absurd (omega arith)
take_first (suc n) [] ys e = absurd (omega arith)
take_first (suc n) (x ∷ xs) ys e = ap (λ later. x ∷ later) (take_first n xs ys (omega arith))

drop_first : (n : ℕ) (xs ys : List ℕ) → length xs ≡ n → drop n (xs ++ ys) ≡ ys
drop_first zero [] ys e = refl
drop_first zero (x ∷ xs) ys e = absurd (omega arith)
drop_first (suc n) [] ys e = absurd (omega arith)
drop_first (suc n) (x ∷ xs) ys e = drop_first n xs ys (omega arith)

own_again : (ram : Bool) (fill before : ℕ) (bytes rest : List ℕ) → 256 ≤ length bytes →
    (if ram then replicate 256 fill else take 256 ((if ram then replicate 256 before else take 256 bytes) ++ rest))
    ≡ (if ram then replicate 256 fill else take 256 bytes)
own_again true fill before bytes rest whole = refl
own_again false fill before bytes rest whole = take_first 256 (take 256 bytes) rest (length-own false before bytes whole)

pub filled_again : (fill before : ℕ) (pages : List Page) (bytes : List ℕ) → length bytes ≡ length pages * 256 →
    filled_bytes fill pages (filled_bytes before pages bytes) ≡ filled_bytes fill pages bytes
filled_again fill before [] bytes size = refl
filled_again fill before (p ∷ ps) bytes size =
    let own : List ℕ = if is_ram p.sort then replicate 256 before else take 256 bytes in
    let rest : List ℕ = filled_bytes before ps (drop 256 bytes) in
    let whole : 256 ≤ length bytes = omega arith in
    ap₂ (λ block later. block ++ filled_bytes fill ps later) (own_again (is_ram p.sort) fill before bytes rest whole)
    (drop_first 256 own rest (length-own (is_ram p.sort) before bytes whole))
    ∙ ap (λ later. (if is_ram p.sort then replicate 256 fill else take 256 bytes) ++ later)
    (filled_again fill before ps (drop 256 bytes) (omega (arith, length-drop 256 bytes)))
