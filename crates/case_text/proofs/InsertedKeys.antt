-- Keys that are put one by one at their places in an order: what they are seen as, what holds of each, and which there are.
use Rattle.std.proofs.Common.{◌≡◌, ℕ, zero, suc, ◌<◌, List, [], ◌∷◌, length, map, ◌⊎◌, inl, inr, refl, sym, ap, ◌∙◌, subst, arith}
use Rattle.std.specs.Prelude.{slice_index_or}
use Rattle.std.specs.List.{AllByRecursion, Contains}
use Rattle.std.specs.List.Sorted.{IsStrictlySortedBy}
use Rattle.std.specs.Cmp.{IsTotalOrder}
use Rattle.std.specs.Ordering.{match_ordering, ordering_reverse}
use Rattle.std.specs.BTreeSet.{insert_key}
use Rattle.std.specs.declared.cmp.Ordering.{Ordering}
use Rattle.std.specs.declared.cmp.Ordering.TheVariants.{Less, Equal, Greater}

-- keys that are compared as they are seen are seen as those that are seen
module _ {A B : Type 0} (view : A → B) (cmp : B → B → Ordering) (k : A) where
  pub map_inserted : (xs : List A) → map view (insert_key (λ x y. cmp (view x) (view y)) xs k) ≡ insert_key cmp (map view xs) (view k)
  map_inserted [] = refl
  map_inserted (x ∷ xs) = by (cmp (view k) (view x)) (map_inserted xs)
    where
      by : (r : Ordering) → map view (insert_key (λ x y. cmp (view x) (view y)) xs k) ≡ insert_key cmp (map view xs) (view k) →
          map view (match_ordering r (k ∷ x ∷ xs) (x ∷ xs) (x ∷ insert_key (λ x y. cmp (view x) (view y)) xs k))
          ≡ match_ordering r (view k ∷ view x ∷ map view xs) (view x ∷ map view xs) (view x ∷ insert_key cmp (map view xs) (view k))
      by Less same = refl
      by Equal same = refl
      by Greater same = ap (λ (ys : List B). view x ∷ ys) same

-- ---- what holds of each

module _ {A : Type 0} (cmp : A → A → Ordering) (k : A) (P : A → Type 0) where
  pub all_inserted : (xs : List A) → P k → AllByRecursion P xs → AllByRecursion P (insert_key cmp xs k)
  all_inserted [] new all = (new, tt)
  all_inserted (x ∷ xs) new all = by (cmp k x) (all_inserted xs new all.1)
    where
      by : (r : Ordering) → AllByRecursion P (insert_key cmp xs k) →
          AllByRecursion P (match_ordering r (k ∷ x ∷ xs) (x ∷ xs) (x ∷ insert_key cmp xs k))
      by Less more = (new, all)
      by Equal more = all
      by Greater more = (all.0, more)

-- ---- the order

module _ {A : Type 0} (cmp : A → A → Ordering) (total : IsTotalOrder cmp) where
  all_above : (k x : A) (xs : List A) → cmp k x ≡ Less → AllByRecursion (λ y. cmp x y ≡ Less) xs → AllByRecursion (λ y. cmp k y ≡ Less) xs
  all_above k x [] below all = tt
  all_above k x (y ∷ xs) below all = (total.trans k x y below all.0, all_above k x xs below all.1)

  pub inserted_sorted : (k : A) (xs : List A) → IsStrictlySortedBy cmp xs → IsStrictlySortedBy cmp (insert_key cmp xs k)
  unfolding IsStrictlySortedBy
  inserted_sorted k [] sorted = (tt, tt)
  inserted_sorted k (x ∷ xs) sorted = by (cmp k x) refl (inserted_sorted k xs sorted.1)
    where
      by : (r : Ordering) → cmp k x ≡ r → IsStrictlySortedBy cmp (insert_key cmp xs k) →
          IsStrictlySortedBy cmp (match_ordering r (k ∷ x ∷ xs) (x ∷ xs) (x ∷ insert_key cmp xs k))
      by Less is more = ((is, all_above k x xs is sorted.0), sorted)
      by Equal is more = sorted
      by Greater is more =
          let above : cmp x k ≡ Less = total.antisymm x k ∙ ap ordering_reverse is in
          (all_inserted cmp k (λ y. cmp x y ≡ Less) xs above sorted.0, more)

-- ---- which keys there are

module _ {A : Type 0} where
  pub first_contained : (x : A) (xs : List A) → Contains (x ∷ xs) x
  first_contained x xs = (0, omega arith, refl)

  pub later_contained : (x y : A) (xs : List A) → Contains xs y → Contains (x ∷ xs) y
  later_contained x y xs found =
      let within : found.0 < length xs = found.1 in
      (suc found.0, omega arith, found.2)

  by_place : (x y : A) (xs : List A) (k : ℕ) → k < length (x ∷ xs) → slice_index_or (x ∷ xs) k y ≡ y → (x ≡ y) ⊎ Contains xs y
  by_place x y xs zero within is = inl is
  by_place x y xs (suc k) within is = inr (k, omega arith, is)

  pub contained_cases : (x y : A) (xs : List A) → Contains (x ∷ xs) y → (x ≡ y) ⊎ Contains xs y
  contained_cases x y xs found = by_place x y xs found.0 found.1 found.2

module _ {A : Type 0} (cmp : A → A → Ordering) (k y : A) where
  -- one that was there still is
  pub kept_contained : (xs : List A) → Contains xs y → Contains (insert_key cmp xs k) y
  kept_contained [] found = later_contained k y [] found
  kept_contained (x ∷ xs) found = by (cmp k x) (kept_contained xs)
    where
      by : (r : Ordering) → (Contains xs y → Contains (insert_key cmp xs k) y) →
          Contains (match_ordering r (k ∷ x ∷ xs) (x ∷ xs) (x ∷ insert_key cmp xs k)) y
      by Less more = later_contained k y (x ∷ xs) found
      by Equal more = found
      by Greater more = elim (contained_cases x y xs found) [
        | inl same ↦ subst (Contains (x ∷ insert_key cmp xs k)) same (first_contained x (insert_key cmp xs k))
        | inr later ↦ later_contained x y (insert_key cmp xs k) (more later)
      ]

  -- one that is there was, or is the new one
  pub contained_before : (xs : List A) → Contains (insert_key cmp xs k) y → (k ≡ y) ⊎ Contains xs y
  contained_before [] found = contained_cases k y [] found
  contained_before (x ∷ xs) found = by (cmp k x) (contained_before xs) found
    where
      by : (r : Ordering) → (Contains (insert_key cmp xs k) y → (k ≡ y) ⊎ Contains xs y) →
          Contains (match_ordering r (k ∷ x ∷ xs) (x ∷ xs) (x ∷ insert_key cmp xs k)) y → (k ≡ y) ⊎ Contains (x ∷ xs) y
      by Less more found = contained_cases k y (x ∷ xs) found
      by Equal more found = inr found
      by Greater more found = elim (contained_cases x y (insert_key cmp xs k) found) [
        | inl same ↦ inr (subst (Contains (x ∷ xs)) same (first_contained x xs))
        | inr later ↦ elim (more later) [
          | inl new ↦ inl new
          | inr old ↦ inr (later_contained x y xs old)
        ]
      ]

module _ {A : Type 0} (cmp : A → A → Ordering) (P : A → Type 0) (exact : (k x : A) → P k → P x → cmp k x ≡ Equal → k ≡ x)
    (k : A) (new : P k) where
  -- the new one is there, where no two that hold are alike
  pub new_contained : (xs : List A) → AllByRecursion P xs → Contains (insert_key cmp xs k) k
  new_contained [] all = first_contained k []
  new_contained (x ∷ xs) all = by (cmp k x) refl (new_contained xs all.1)
    where
      by : (r : Ordering) → cmp k x ≡ r → Contains (insert_key cmp xs k) k →
          Contains (match_ordering r (k ∷ x ∷ xs) (x ∷ xs) (x ∷ insert_key cmp xs k)) k
      by Less is more = first_contained k (x ∷ xs)
      by Equal is more = subst (Contains (x ∷ xs)) (sym (exact k x new all.0 is)) (first_contained x xs)
      by Greater is more = later_contained x k (insert_key cmp xs k) more
