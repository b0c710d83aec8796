-- The places of pages whose numbers ascend.
use Rattle.std.proofs.Common.{◌≡◌, ℕ, zero, suc, ◌+◌, ◌<◌, ◌≤◌, Bool, true, false, List, [], ◌∷◌, ◌++◌, length, get_or}
use Rattle.std.proofs.Common.{take, map, Option, Some, None, refl, ap, arith}
use Rattle.std.specs.Prelude.{◌==◌, if◌then◌else◌, slice_get, slice_set, option_map, replicate}
use Rattle.std.specs.List.Sorted.{IsStrictlyIncreasing}
use Rattle.std.proofs.lemmas.Bool.Decides.{nat_tests}
use Rattle.std.proofs.lemmas.List.{take_more, get_or-map, length-map, length-take, get_or-take}
use Rattle.std.proofs.lemmas.List.Kept.{AllPairs-from_increasing}
use Rattle.std.proofs.lemmas.Option.{slice_get_within, get_or_from_slice_get}
use Rattle.f8_spec.specs.ChipState.{place_of}
use Rattle.f8_spec.specs.declared.chips.Page.{Page}
use Rattle.smi3853.specs.Spaces.{IsPlaces}
use Rattle.smi3853.proofs.Numbers.{place_below}

abbrev numbers : List Page → List ℕ
numbers pages = map (λ p. p.number) pages

-- a place lies within the pages
pub place_of-within : (pages : List Page) (number place : ℕ) → place_of pages number ≡ Some place → place < length pages
place_of-within [] number place found = cc
place_of-within (p ∷ ps) number place found = step (p.number == number) (place_of ps number) (place_of-within ps number) found
  where
    step : (here : Bool) (later : Option ℕ) → ((k : ℕ) → later ≡ Some k → k < length ps) →
        (if here then Some 0 else option_map (λ k. k + 1) later) ≡ Some place → place < suc (length ps)
    step true later below found = let h : 0 ≡ place = cc in omega arith
    step false None below found = cc
    step false (Some k) below found = let h : k + 1 ≡ place = cc in let b = below k refl in omega arith

-- a number that no page has
place_of-none : (pages : List Page) (number : ℕ) → ((k : ℕ) (d : Page) → k < length pages → (get_or pages k d).number < number) → place_of pages number ≡ None
place_of-none [] number below = refl
place_of-none (p ∷ ps) number below =
    let first : p.number < number = below 0 p (omega arith) in
    let other : (p.number == number) ≡ false = grind (arith, nat_tests) in
    let rest = place_of-none ps number (λ k d within. below (suc k) d (omega arith)) in
    rw (other, rest) refl

-- one more page, with that number
place_of-own : (pages : List Page) (p : Page) (number : ℕ) → place_of pages number ≡ None →
    (p.number == number) ≡ true → place_of (pages ++ p ∷ []) number ≡ Some (length pages)
place_of-own [] p number none own = rw own refl
place_of-own (x ∷ xs) p number none own = step (x.number == number) (place_of xs number)
    (place_of (xs ++ p ∷ []) number) none (λ rest. place_of-own xs p number rest own)
  where
    step : (here : Bool) (later now : Option ℕ) → (if here then Some 0 else option_map (λ k. k + 1) later) ≡ None → (later ≡ None → now ≡ Some (length xs)) →
        (if here then Some 0 else option_map (λ k. k + 1) now) ≡ Some (suc (length xs))
    step true later now none found = cc
    step false None now none found = rw (found refl) (let e : length xs + 1 ≡ suc (length xs) = omega arith in ap (λ k. Some k) e)
    step false (Some k) now none found = cc

-- one more page, with another number
place_of-other : (pages : List Page) (p : Page) (number : ℕ) → (p.number == number) ≡ false → place_of (pages ++ p ∷ []) number ≡ place_of pages number
place_of-other [] p number other = rw other refl
place_of-other (x ∷ xs) p number other = rw (place_of-other xs p number other) refl

-- a page's number is above those of the pages before it
earlier_below : (pages : List Page) → IsStrictlyIncreasing (numbers pages) → (i k : ℕ) (d e : Page) → k < i → i < length pages →
    (get_or pages k d).number < (get_or pages i e).number
earlier_below pages up i k d e before within =
    let far = AllPairs-from_increasing (numbers pages) up k i 0 before (rw (length-map pages (λ p. p.number)) within) in
    rw (get_or-map (λ p. p.number) pages k d 0 (omega arith), get_or-map (λ p. p.number) pages i e 0 within) at far

-- a page's place is at most its number
pub place_below-number : (pages : List Page) → IsStrictlyIncreasing (numbers pages) → (i : ℕ) (d : Page) → i < length pages → i ≤ (get_or pages i d).number
place_below-number pages up i d within =
    rw (get_or-map (λ p. p.number) pages i d 0 within) at (place_below (numbers pages) up i (rw (length-map pages (λ p. p.number)) within))

-- an entry of a list that was set, and one beside it
slice_get-set_same : {A : Type 0} (xs : List A) (i : ℕ) (y : A) → i < length xs → slice_get (slice_set xs i y) i ≡ Some y
slice_get-set_same [] i y within = absurd (omega arith)
slice_get-set_same (x ∷ xs) zero y within = refl
slice_get-set_same (x ∷ xs) (suc i) y within = slice_get-set_same xs i y (omega arith)

slice_get-set_other : {A : Type 0} (xs : List A) (i j : ℕ) (y : A) → (i ≡ j → ⊥) → slice_get (slice_set xs i y) j ≡ slice_get xs j
slice_get-set_other [] i j y other = refl
slice_get-set_other (x ∷ xs) zero zero y other = absurd (other refl)
slice_get-set_other (x ∷ xs) zero (suc j) y other = refl
slice_get-set_other (x ∷ xs) (suc i) zero y other = refl
slice_get-set_other (x ∷ xs) (suc i) (suc j) y other = slice_get-set_other xs i j y (λ same. other (ap suc same))

slice_get-replicate : {A : Type 0} (n i : ℕ) (y : A) → i < n → slice_get (replicate n y) i ≡ Some y
slice_get-replicate zero i y within = absurd (omega arith)
slice_get-replicate (suc n) zero y within = refl
slice_get-replicate (suc n) (suc i) y within = slice_get-replicate n i y (omega arith)

-- the table before any page is placed
pub IsPlaces-none : (pages : List Page) → IsPlaces (replicate 256 None) (take 0 pages)
IsPlaces-none pages = record { at = λ number below. slice_get-replicate 256 number None below }

-- the place of one more page
pub IsPlaces-more : (pages : List Page) (places : List (Option ℕ)) (i number : ℕ) (d : Page) → IsStrictlyIncreasing (numbers pages) → i < length pages →
    number ≡ (get_or pages i d).number → number < 256 → IsPlaces places (take i pages) → IsPlaces (slice_set places number (Some i)) (take (i + 1) pages)
IsPlaces-more pages places i number d up within own small before = record { at = λ n below. rw (take_more pages i d within) (step n below (n == number) refl) }
  where
    in_table : number < length places
    in_table = slice_get_within places number _ (before.at number small)

    none : place_of (take i pages) number ≡ None
    none = place_of-none (take i pages) number (λ k e below.
        let h : k < i = omega (arith, length-take i pages) in
        rw (get_or-take i pages k e h, own) (earlier_below pages up i k e d h within))

    step : (n : ℕ) → n < 256 → (same : Bool) → (n == number) ≡ same →
        slice_get (slice_set places number (Some i)) n ≡ Some (place_of (take i pages ++ get_or pages i d ∷ []) n)
    step n below true same =
        let e : n ≡ number = grind (arith, nat_tests) in
        let here : ((get_or pages i d).number == number) ≡ true = grind (arith, nat_tests) in
        let size : length (take i pages) ≡ i = omega (arith, length-take i pages) in
        rw (e, slice_get-set_same places number (Some i) in_table, place_of-own (take i pages) (get_or pages i d) number none here, size) refl
    step n below false same =
        let elsewhere : (number ≡ n) → ⊥ = λ h. grind (arith, nat_tests) in
        let other : ((get_or pages i d).number == n) ≡ false = grind (arith, nat_tests) in
        rw (slice_get-set_other places number n (Some i) elsewhere, place_of-other (take i pages) (get_or pages i d) n other) (before.at n below)

-- an entry of the table
pub place_read : (pages : List Page) (places : List (Option ℕ)) (number : ℕ) (d : Option ℕ) → IsPlaces places pages → number < 256 →
    get_or places number d ≡ place_of pages number
place_read pages places number d table below = get_or_from_slice_get places number _ d (table.at number below)

-- Some pages are placed. Each lies at or above its own place, so they are few.
pub record Placed (places : List (Option ℕ)) (pages : List Page) (i : ℕ) : Type 0 where
  pub table : IsPlaces places (take i pages)
  pub few : i ≤ 256

pub Placed-none : (pages : List Page) → Placed (replicate 256 None) pages 0
Placed-none pages = record { table = IsPlaces-none pages; few = omega arith }

pub Placed-more : (pages : List Page) (places : List (Option ℕ)) (i number : ℕ) (d : Page) → IsStrictlyIncreasing (numbers pages) → i < length pages →
    number ≡ (get_or pages i d).number → number < 256 → Placed places pages i → Placed (slice_set places number (Some i)) pages (i + 1)
Placed-more pages places i number d up within own small before = record {
  table = IsPlaces-more pages places i number d up within own small before.table;
  few = let least = place_below-number pages up i d within in omega arith;
}
