-- Rearranged lists, and what a partial function gives of their elements.
use Rattle.std.proofs.Common.{◌≡◌, ℕ, suc, ◌<◌, List, [], ◌∷◌, zero, length, get_or, map, refl, ap, subst, arith}
use Rattle.std.specs.Prelude.{Option, Some, None, option_map, filter_map, swap, IsPermutation}
use Rattle.std.specs.List.{cons_option}
use Rattle.std.proofs.Math.ListN.{set}
use Rattle.std.proofs.lemmas.List.Edits.{swap_is}
use Rattle.std.proofs.lemmas.List.Elements.{All-cons, All-nil}
use Rattle.std.proofs.lemmas.List.Sorted.{IsPermutation-refl, IsPermutation-trans, IsPermutation-cons}
use Rattle.std.proofs.lemmas.List.Sorted.{IsPermutation-middle, IsPermutation-keeps, length_permutation}
use Rattle.std.proofs.lemmas.List.Sorted.{All-permutation}

module _ {Y : Type 0} where
  -- one more at the front of both
  cons_option-under : (o : Option Y) (xs ys : List Y) → IsPermutation xs ys → IsPermutation (cons_option o xs) (cons_option o ys)
  cons_option-under None xs ys p = p
  cons_option-under (Some x) xs ys p = IsPermutation-cons x xs ys p

  -- two at the front change places
  cons_option-flip : (o p : Option Y) (xs : List Y) → IsPermutation (cons_option o (cons_option p xs)) (cons_option p (cons_option o xs))
  cons_option-flip None None xs = IsPermutation-refl xs
  cons_option-flip None (Some y) xs = IsPermutation-refl (y ∷ xs)
  cons_option-flip (Some x) None xs = IsPermutation-refl (x ∷ xs)
  cons_option-flip (Some x) (Some y) xs = IsPermutation-middle (x ∷ []) y xs

module _ {X Y : Type 0} (h : X → Option Y) where
  -- the first element and a later one change places
  exchange_first : (x : X) (zs : List X) (j : ℕ) (d : X) → j < length zs → IsPermutation (filter_map h (x ∷ zs)) (filter_map h (get_or zs j d ∷ set zs j x))
  exchange_first x [] j d b = absurd (omega arith)
  exchange_first x (z ∷ zs) zero d b = cons_option-flip (h x) (h z) (filter_map h zs)
  exchange_first x (z ∷ zs) (suc k) d b =
      let within : k < length zs = omega arith in
      let deeper = cons_option-under (h z) _ _ (exchange_first x zs k d within) in
      IsPermutation-trans _ _ _ (cons_option-flip (h x) (h z) (filter_map h zs))
      (IsPermutation-trans _ _ _ deeper (cons_option-flip (h z) (h (get_or zs k d)) (filter_map h (set zs k x))))

  -- two elements change places
  exchange : (zs : List X) (i j : ℕ) (d : X) → i < length zs → j < length zs →
      IsPermutation (filter_map h zs) (filter_map h (set (set zs i (get_or zs j d)) j (get_or zs i d)))
  exchange [] i j d b c = absurd (omega arith)
  exchange (z ∷ zs) zero zero d b c = IsPermutation-refl (filter_map h (z ∷ zs))
  exchange (z ∷ zs) zero (suc j) d b c = exchange_first z zs j d (omega arith)
  exchange (z ∷ zs) (suc i) zero d b c = exchange_first z zs i d (omega arith)
  exchange (z ∷ zs) (suc i) (suc j) d b c = cons_option-under (h z) _ _ (exchange zs i j d (omega arith) (omega arith))

  -- what a partial function gives of a rearranged list is rearranged
  pub filter_map-IsPermutation : (xs ys : List X) → IsPermutation xs ys → IsPermutation (filter_map h xs) (filter_map h ys)
  filter_map-IsPermutation xs ys p = IsPermutation-keeps xs (λ l. IsPermutation (filter_map h xs) (filter_map h l)) (IsPermutation-refl (filter_map h xs))
      (λ l i j b c before. IsPermutation-trans _ _ _ before (swapped l i j b c)) ys p
    where
      first : (l : List X) → 0 < length l → X
      first [] b = absurd (omega arith)
      first (x ∷ l) b = x

      swapped : (l : List X) (i j : ℕ) → i < length l → j < length l → IsPermutation (filter_map h l) (filter_map h (swap l i j))
      swapped l i j b c =
          let d : X = first l (omega arith) in
          subst (λ k. IsPermutation (filter_map h l) (filter_map h k)) (swap_is l i j d b c) (exchange l i j d b c)

-- one more at the front, mapped
cons_option-map : {Y W : Type 0} (k : Y → W) (o : Option Y) (ys : List Y) → cons_option (option_map k o) (map k ys) ≡ map k (cons_option o ys)
cons_option-map k None ys = refl
cons_option-map k (Some y) ys = refl

-- what a partial function gives of changed elements, where it follows the change
pub filter_map-follows : {X Y Z : Type 0} (h : Z → Option Y) (f : X → Z) (g : X → X) (k : Y → Y) → ((x : X) → h (f (g x)) ≡ option_map k (h (f x))) →
    (xs : List X) → filter_map h (map f (map g xs)) ≡ map k (filter_map h (map f xs))
filter_map-follows h f g k follows [] = refl
filter_map-follows h f g k follows (x ∷ xs) = rw (follows x, filter_map-follows h f g k follows xs) (cons_option-map k (h (f x)) (filter_map h (map f xs)))

-- what it gives of changed elements, where the change does not tell
pub filter_map-unmoved : {X Y Z : Type 0} (h : X → Option Y) (k : Z → Option Y) (g : X → Z) → ((x : X) → k (g x) ≡ h x) →
    (xs : List X) → filter_map k (map g xs) ≡ filter_map h xs
filter_map-unmoved h k g same [] = refl
filter_map-unmoved h k g same (x ∷ xs) = rw (same x, filter_map-unmoved h k g same xs) refl

-- a rearranged empty list is empty
pub none_left : {X : Type 0} (ys : List X) → IsPermutation [] ys → ys ≡ []
none_left [] p = refl
none_left (y ∷ ys) p = absurd (let e = length_permutation [] (y ∷ ys) p in omega arith)

-- a rearranged list of one is that list
pub one_left : {X : Type 0} (x : X) (ys : List X) → IsPermutation (x ∷ []) ys → ys ≡ x ∷ []
one_left x [] p = absurd (let e = length_permutation (x ∷ []) [] p in omega arith)
one_left {X} x (y ∷ []) p = ap (λ z. z ∷ [])
    (All-permutation (λ z. z ≡ x) (x ∷ []) (y ∷ []) p (All-cons (λ z. z ≡ x) x [] refl (All-nil (λ z. z ≡ x))) 0 y
    (omega arith))
one_left x (y ∷ (z ∷ zs)) p = absurd (let e = length_permutation (x ∷ []) (y ∷ (z ∷ zs)) p in omega arith)
