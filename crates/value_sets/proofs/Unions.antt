-- A list with the numbers of another one: its length, and the loop that makes it.
use Rattle.std.proofs.Common.{◌≡◌, ◌==◌, ◌<◌, ◌≤◌, ◌+◌, ℕ, Bool, true, false, nat_lt, nat_le, List, [], ◌∷◌, length, drop}
use Rattle.std.proofs.Common.{refl, ap, sym, subst, ◌∙◌, arith}
use Rattle.std.proofs.lemmas.Bool.{le-leb, lt-leb}
use Rattle.std.proofs.lemmas.List.{at_drop_more, drop_all}
use Rattle.std.specs.Prelude.{Some, None, if◌then◌else◌, slice_index}
use Rattle.value_sets.specs.ValueSets.{with_number, union, listed_union}

-- ---- lengths

-- no list becomes shorter
with_no_fewer : (numbers : List ℕ) (x : ℕ) → length numbers ≤ length (with_number numbers x)
with_no_fewer [] x = omega arith
with_no_fewer (y ∷ ys) x = by (nat_lt y x) (y == x) (with_no_fewer ys x)
  where
    by : (smaller same : Bool) → length ys ≤ length (with_number ys x) →
        length (y ∷ ys) ≤ length (if smaller then y ∷ with_number ys x else (if same then y ∷ ys else x ∷ y ∷ ys))
    by true same later = omega (arith, later)
    by false true later = omega arith
    by false false later = omega arith

union_no_fewer : (numbers more : List ℕ) → length numbers ≤ length (union numbers more)
union_no_fewer numbers [] = omega arith
union_no_fewer numbers (x ∷ more) = omega (arith, with_no_fewer numbers x, union_no_fewer (with_number numbers x) more)

-- ---- unions of a list so far with what is left

module _ (most : ℕ) (list rest numbers more : List ℕ) (whole : union list rest ≡ union numbers more) where
  -- where the list so far is too long, the whole union is
  pub too_many : most < length list → None ≡ listed_union most numbers more
  too_many many =
      none (nat_le (length (union numbers more)) most)
      (lt-leb (length (union numbers more)) most (omega (arith, union_no_fewer list rest, ap length whole, many)))
    where
      none : (b : Bool) → b ≡ false → None ≡ (if b then Some (union numbers more) else None)
      none true over = absurd (cc)
      none false over = refl

-- the next number of what is left is added
pub union_step : (list more numbers whole : List ℕ) (place : ℕ) → place < length more → union list (drop place more) ≡ union numbers whole →
    union (with_number list (slice_index more place)) (drop (place + 1) more) ≡ union numbers whole
union_step list more numbers whole place within so_far = sym (at_drop_more (union list) more place 0 within) ∙ so_far

-- nothing is left
pub union_end : (list more numbers whole : List ℕ) (place : ℕ) → length more ≤ place → union list (drop place more) ≡ union numbers whole →
    list ≡ union numbers whole
union_end list more numbers whole place end so_far =
    subst (λ rest. union list rest ≡ union numbers whole) (drop_all place more end) so_far

-- a union that isn't too long is listed
pub few_enough : (most : ℕ) (list numbers more : List ℕ) → list ≡ union numbers more → length list ≤ most →
    Some list ≡ listed_union most numbers more
few_enough most list numbers more whole few =
    some (nat_le (length (union numbers more)) most) (le-leb (length (union numbers more)) most (omega (arith, few, ap length whole)))
  where
    some : (b : Bool) → b ≡ true → Some list ≡ (if b then Some (union numbers more) else None)
    some true fits = ap Some whole
    some false fits = absurd (cc)
