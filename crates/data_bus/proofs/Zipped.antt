-- Two lists in step, as the chips of a rack before and after something was done to each: what holds of each pair holds of the lists.
use Rattle.std.proofs.Common.{◌≡◌, ℕ, zero, suc, ◌+◌, List, [], ◌∷◌, map, refl, ap₂, subst, arith}
use Rattle.std.specs.Prelude.{Some, slice_get}
use Rattle.std.specs.List.{AllByRecursion, enumerate_from}
use Rattle.data_bus.specs.Racks.{NumberedZip}

-- what an element of the second list came of, at its place
pub record Paired {A B : Type 0} (R : ℕ → A → B → Type 0) (xs : List A) (place number : ℕ) (y : B) : Type 0 where
  pub from : A
  pub is : slice_get xs place ≡ Some from
  pub related : R number from y

module _ {A B : Type 0} (R : ℕ → A → B → Type 0) where
  -- each pair is in another relation as well
  pub zip_as : (S : ℕ → A → B → Type 0) → ((k : ℕ) (a : A) (b : B) → R k a b → S k a b) → (n : ℕ) (xs : List A) (ys : List B) →
      NumberedZip R n xs ys → NumberedZip S n xs ys
  zip_as S each n [] [] all = tt
  zip_as S each n [] (y ∷ ys) all = absurd all
  zip_as S each n (x ∷ xs) [] all = absurd all
  zip_as S each n (x ∷ xs) (y ∷ ys) all = (each n x y all.0, zip_as S each (n + 1) xs ys all.1)

  -- what each element came of, by its place
  pub paired : (n number place : ℕ) (xs : List A) (ys : List B) (y : B) → n + place ≡ number → NumberedZip R n xs ys →
      slice_get ys place ≡ Some y → Paired R xs place number y
  paired n number place [] [] y at all lies = cc
  paired n number place [] (z ∷ ys) y at all lies = absurd all
  paired n number place (x ∷ xs) [] y at all lies = absurd all
  paired n number zero (x ∷ xs) (z ∷ ys) y at all lies =
      let same : z ≡ y = cc in
      let here : n ≡ number = omega arith in
      record { from = x; is = refl; related = subst (λ (m : ℕ). R m x y) here (subst (λ (w : B). R n x w) same all.0) }
  paired n number (suc place) (x ∷ xs) (z ∷ ys) y at all lies =
      let there = paired (n + 1) number place xs ys y (omega arith) all.1 lies in
      record { from = there.from; is = there.is; related = there.related }

  module _ {C D : Type 0} (V : A → C) (W : B → D) where
    -- what each becomes is a function of its number and of what it was
    pub zip_numbered : (f : ℕ → C → D) → ((k : ℕ) (a : A) (b : B) → R k a b → W b ≡ f k (V a)) → (n : ℕ) (xs : List A) (ys : List B) →
        NumberedZip R n xs ys → map W ys ≡ map (λ x. f x.0 x.1) (enumerate_from n (map V xs))
    zip_numbered f each n [] [] all = refl
    zip_numbered f each n [] (y ∷ ys) all = absurd all
    zip_numbered f each n (x ∷ xs) [] all = absurd all
    zip_numbered f each n (x ∷ xs) (y ∷ ys) all =
        ap₂ (λ (w : D) (ws : List D). w ∷ ws) (each n x y all.0) (zip_numbered f each (n + 1) xs ys all.1)

    -- or of what it was alone
    pub zip_mapped : (f : C → D) → ((k : ℕ) (a : A) (b : B) → R k a b → W b ≡ f (V a)) → (n : ℕ) (xs : List A) (ys : List B) →
        NumberedZip R n xs ys → map W ys ≡ map f (map V xs)
    zip_mapped f each n [] [] all = refl
    zip_mapped f each n [] (y ∷ ys) all = absurd all
    zip_mapped f each n (x ∷ xs) [] all = absurd all
    zip_mapped f each n (x ∷ xs) (y ∷ ys) all =
        ap₂ (λ (w : D) (ws : List D). w ∷ ws) (each n x y all.0) (zip_mapped f each (n + 1) xs ys all.1)

    -- something of each stays
    pub zip_alike : {E : Type 0} (f : C → E) (g : D → E) → ((k : ℕ) (a : A) (b : B) → R k a b → g (W b) ≡ f (V a)) → (n : ℕ)
        (xs : List A) (ys : List B) → NumberedZip R n xs ys → map g (map W ys) ≡ map f (map V xs)
    zip_alike f g each n [] [] all = refl
    zip_alike f g each n [] (y ∷ ys) all = absurd all
    zip_alike f g each n (x ∷ xs) [] all = absurd all
    zip_alike {E} f g each n (x ∷ xs) (y ∷ ys) all =
        ap₂ (λ (w : E) (ws : List E). w ∷ ws) (each n x y all.0) (zip_alike f g each (n + 1) xs ys all.1)

    -- what held of each of the first list gives what holds of each of the second
    pub zip_all : (P : C → Type 0) (Q : D → Type 0) → ((k : ℕ) (a : A) (b : B) → R k a b → P (V a) → Q (W b)) → (n : ℕ) (xs : List A)
        (ys : List B) → NumberedZip R n xs ys → AllByRecursion P (map V xs) → AllByRecursion Q (map W ys)
    zip_all P Q each n [] [] all held = tt
    zip_all P Q each n [] (y ∷ ys) all held = absurd all
    zip_all P Q each n (x ∷ xs) [] all held = absurd all
    zip_all P Q each n (x ∷ xs) (y ∷ ys) all held = (each n x y all.0 held.0, zip_all P Q each (n + 1) xs ys all.1 held.1)
