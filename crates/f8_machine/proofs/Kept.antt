-- What a filter keeps of a list, read by the places of its elements: nothing, or exactly one.
use Rattle.std.proofs.Common.{◌≡◌, ℕ, zero, suc, ◌+◌, List, [], ◌∷◌, refl, sym, ap, subst, ◌∙◌, ⊎_elim, arith}
use Rattle.std.specs.Prelude.{Option, Some, None, option_map, filter_map, slice_get}
use Rattle.std.proofs.lemmas.Bool.{cases_eq}
use Rattle.std.specs.List.{cons_option, enumerate_from}

-- one element is kept, as y
pub record OneKept {A B : Type 0} (f : A → Option B) (xs : List A) (y : B) : Type 0 where
  pub place : ℕ
  pub element : A
  pub lies : slice_get xs place ≡ Some element
  pub kept : f element ≡ Some y
  pub others : (j : ℕ) (w : A) → slice_get xs j ≡ Some w → (j ≡ place → ⊥) → f w ≡ None

module _ {A B : Type 0} (f : A → Option B) where
  -- where nothing is kept, nothing of the first element is
  none_first : (o : Option B) (rest : List B) → cons_option o rest ≡ [] → o ≡ None
  none_first None rest e = refl
  none_first (Some y) rest e = cc

  -- and nothing of the later ones
  none_later : (o : Option B) (rest : List B) → cons_option o rest ≡ [] → rest ≡ []
  none_later None rest e = e
  none_later (Some y) rest e = cc

  -- nothing is kept: of no element
  pub none_kept : (xs : List A) → filter_map f xs ≡ [] → (j : ℕ) (w : A) → slice_get xs j ≡ Some w → f w ≡ None
  none_kept [] e j w lies = cc
  none_kept (x ∷ xs) e zero w lies = let same : x ≡ w = cc in
      subst (λ a. f a ≡ None) same (none_first (f x) (filter_map f xs) e)
  none_kept (x ∷ xs) e (suc j) w lies = none_kept xs (none_later (f x) (filter_map f xs) e) j w lies

  -- of no element: nothing is kept
  pub keeps_none : (xs : List A) → ((j : ℕ) (w : A) → slice_get xs j ≡ Some w → f w ≡ None) → filter_map f xs ≡ []
  keeps_none [] none = refl
  keeps_none (x ∷ xs) none = rw (none 0 x refl) (keeps_none xs (λ j w lies. none (suc j) w lies))

  -- one is kept: which it is
  pub one_kept : (xs : List A) (y : B) → filter_map f xs ≡ y ∷ [] → OneKept f xs y
  one_kept [] y e = cc
  one_kept (x ∷ xs) y e = step (f x) refl e (one_kept xs y)
    where
      step : (o : Option B) → f x ≡ o → cons_option o (filter_map f xs) ≡ y ∷ [] →
          (filter_map f xs ≡ y ∷ [] → OneKept f xs y) → OneKept f (x ∷ xs) y
      step None is all later =
          let found : OneKept f xs y = later all in
          record {
            place = suc found.place;
            element = found.element;
            lies = found.lies;
            kept = found.kept;
            others = others found;
          }
        where
          others : (found : OneKept f xs y) (j : ℕ) (w : A) → slice_get (x ∷ xs) j ≡ Some w →
              (j ≡ suc found.place → ⊥) → f w ≡ None
          others found zero w lies other = let same : x ≡ w = cc in subst (λ a. f a ≡ None) same is
          others found (suc j) w lies other = found.others j w lies (λ e. other (ap suc e))
      step (Some z) is all later =
          let same : z ≡ y = cc in
          let rest : filter_map f xs ≡ [] = cc in
          record { place = 0; element = x; lies = refl; kept = is ∙ ap Some same; others = others rest }
        where
          others : filter_map f xs ≡ [] → (j : ℕ) (w : A) → slice_get (x ∷ xs) j ≡ Some w → (j ≡ 0 → ⊥) → f w ≡ None
          others rest zero w lies other = absurd (other refl)
          others rest (suc j) w lies other = none_kept xs rest j w lies

  -- what is kept of any element is that one
  pub kept_is : (xs : List A) (y : B) → OneKept f xs y → (j : ℕ) (w : A) (z : B) → slice_get xs j ≡ Some w →
      f w ≡ Some z → z ≡ y
  kept_is xs y one j w z lies kept = ⊎_elim here elsewhere (cases_eq j one.place)
    where
      here : j ≡ one.place → z ≡ y
      here e =
          let at : slice_get xs one.place ≡ Some w = subst (λ n. slice_get xs n ≡ Some w) e lies in
          let both : Some one.element ≡ Some w = sym one.lies ∙ at in
          let same : one.element ≡ w = cc in
          let twice : Some z ≡ Some y = sym kept ∙ ap f (sym same) ∙ one.kept in
          cc

      elsewhere : (j ≡ one.place → ⊥) → z ≡ y
      elsewhere other = let none : f w ≡ None = one.others j w lies other in cc

  -- which it is: one is kept
  pub keeps_one : (xs : List A) (k : ℕ) (v : A) (y : B) → slice_get xs k ≡ Some v → f v ≡ Some y →
      ((j : ℕ) (w : A) → slice_get xs j ≡ Some w → (j ≡ k → ⊥) → f w ≡ None) → filter_map f xs ≡ y ∷ []
  keeps_one [] k v y lies kept others = cc
  keeps_one (x ∷ xs) zero v y lies kept others =
      let same : x ≡ v = cc in
      let here : f x ≡ Some y = ap f same ∙ kept in
      rw here (ap (λ rest. y ∷ rest) (keeps_none xs (λ j w at. others (suc j) w at (λ e. absurd (omega arith)))))
  keeps_one (x ∷ xs) (suc k) v y lies kept others =
      rw (others 0 x refl (λ e. absurd (omega arith)))
      (keeps_one xs k v y lies kept (λ j w at other. others (suc j) w at (λ e. other (omega arith))))

-- an element with its number, from a number on
numbered_from : {A : Type 0} (n m : ℕ) (xs : List A) (j : ℕ) → n + j ≡ m →
    slice_get (enumerate_from n xs) j ≡ option_map (λ w. (m, w)) (slice_get xs j)
numbered_from n m [] j e = refl
numbered_from n m (x ∷ xs) zero e = let same : n ≡ m = omega arith in ap (λ k. Some (k, x)) same
numbered_from n m (x ∷ xs) (suc j) e = numbered_from (n + 1) m xs j (omega arith)

-- from 0 on
pub slice_get-enumerate_from : {A : Type 0} (xs : List A) (j : ℕ) →
    slice_get (enumerate_from 0 xs) j ≡ option_map (λ w. (j, w)) (slice_get xs j)
slice_get-enumerate_from xs j = numbered_from 0 j xs j (omega arith)

-- an element that a function was mapped to comes of one
pub record Comes {A B : Type 0} (g : A → B) (o : Option A) (y : B) : Type 0 where
  pub from : A
  pub is : o ≡ Some from
  pub gives : y ≡ g from

-- what is mapped to a value comes of one
pub comes : {A B : Type 0} (g : A → B) (o : Option A) (y : B) → option_map g o ≡ Some y → Comes g o y
comes g None y e = cc
comes g (Some x) y e = let same : g x ≡ y = cc in record { from = x; is = refl; gives = sym same }
