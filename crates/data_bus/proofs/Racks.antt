-- Racks in loops over their chips.
use Rattle.std.proofs.Common.{◌≡◌, ℕ, zero, suc, ◌+◌, ◌<◌, ◌≤◌, true, List, [], ◌∷◌, ◌++◌, append-nil, length, get_or}
use Rattle.std.proofs.Common.{map, take, drop, refl, sym, ap, subst, ◌∙◌, arith, add-one, take_all, eqb-true}
use Rattle.std.specs.Prelude.{Option, Some, slice_get}
use Rattle.std.proofs.Math.ListN.{set, get_or-map, drop_of_length-le}
use Rattle.std.proofs.lemmas.Option.{slice_get-get_or}
use Rattle.std.proofs.lemmas.List.{map-set, length-map}
use Rattle.f8_spec.specs.ChipState.{ChipState, is_asking}
use Rattle.f8_spec.specs.BusArbitration.{is_first}
use Rattle.data_bus.specs.Racks.{NumberedZip, NamesAsking, ChosenAsks, AllMayHear, Stays}

-- what is reached of a list has changed by R, and what is not reached is as it was
pub record ChangedBelow {A : Type 0} (R : ℕ → A → A → Type 0) (i : ℕ) (xs ys : List A) : Type 0 where
  pub done : NumberedZip R 0 (take i xs) (take i ys)
  pub left : drop i ys ≡ drop i xs

module _ {A : Type 0} (R : ℕ → A → A → Type 0) where
  -- one more has changed
  done_more : (n i : ℕ) (xs ys : List A) (d y : A) → i < length xs → NumberedZip R n (take i xs) (take i ys) → drop i ys ≡ drop i xs →
      R (n + i) (get_or ys i d) y → NumberedZip R n (take (suc i) xs) (take (suc i) (set ys i y))
  done_more n i [] ys d y b done left r = absurd (omega arith)
  done_more n zero (x ∷ xs) [] d y b done left r = cc
  done_more n zero (x ∷ xs) (z ∷ ys) d y b done left r =
      let here : z ≡ x = cc in
      let at : n + 0 ≡ n = omega arith in
      (subst (λ w. R n w y) here (subst (λ m. R m z y) at r), tt)
  done_more n (suc i) (x ∷ xs) [] d y b done left r = absurd done
  done_more n (suc i) (x ∷ xs) (z ∷ ys) d y b done left r =
      let at : n + suc i ≡ n + 1 + i = omega arith in
      (done.0, done_more (n + 1) i xs ys d y (omega arith) done.1 left (subst (λ m. R m (get_or ys i d) y) at r))

  -- and the rest is as it was
  left_more : (i : ℕ) (xs ys : List A) (y : A) → i < length xs → length ys ≡ length xs → drop i ys ≡ drop i xs → drop (suc i) (set ys i y) ≡ drop (suc i) xs
  left_more i [] ys y b long left = absurd (omega arith)
  left_more i (x ∷ xs) [] y b long left = absurd (omega arith)
  left_more zero (x ∷ xs) (z ∷ ys) y b long left = cc
  left_more (suc i) (x ∷ xs) (z ∷ ys) y b long left = left_more i xs ys y (omega arith) (omega arith) left

  -- nothing is reached
  pub changed-none : (xs : List A) → ChangedBelow R 0 xs xs
  changed-none xs = record { done = tt; left = refl }

  -- everything is reached
  pub changed-whole : (i : ℕ) (xs ys : List A) → length xs ≤ i → length ys ≡ length xs → ChangedBelow R i xs ys → NumberedZip R 0 xs ys
  changed-whole i xs ys past long changed =
      let all_xs : take i xs ≡ xs = take_all i xs past in
      let all_ys : take i ys ≡ ys = take_all i ys (omega arith) in
      subst (λ l. NumberedZip R 0 l ys) all_xs (subst (λ l. NumberedZip R 0 (take i xs) l) all_ys changed.done)

module _ {X A : Type 0} (V : X → A) (R : ℕ → A → A → Type 0) where
  -- what is not reached is as it was
  pub unchanged_at : (xs ys : List X) (i : ℕ) (x : X) → i < length xs → length ys ≡ length xs → ChangedBelow R i (map V xs) (map V ys) →
      slice_get (map V xs) i ≡ Some (V (get_or ys i x))
  unchanged_at xs ys i x b long changed =
      let within_ys : i < length (map V ys) = omega (arith, length-map ys V) in
      let within_xs : i < length (map V xs) = omega (arith, length-map xs V) in
      first_left (map V xs) (map V ys) i within_xs within_ys changed.left ∙ slice_get-get_or (map V ys) i (V x) within_ys ∙ ap Some (get_or-map V ys i x)
    where
      first_left : (us ws : List A) (n : ℕ) → n < length us → n < length ws → drop n ws ≡ drop n us → slice_get us n ≡ slice_get ws n
      first_left [] ws n p q e = absurd (omega arith)
      first_left (u ∷ us) [] n p q e = absurd (omega arith)
      first_left (u ∷ us) (w ∷ ws) zero p q e = cc
      first_left (u ∷ us) (w ∷ ws) (suc n) p q e = first_left us ws n (omega arith) (omega arith) e

  -- one more of a rack has changed
  pub changed-more : (xs ys : List X) (i : ℕ) (x y : X) → i < length xs → length ys ≡ length xs → ChangedBelow R i (map V xs) (map V ys) →
      R i (V (get_or ys i x)) (V y) → ChangedBelow R (i + 1) (map V xs) (map V (set ys i y))
  changed-more xs ys i x y b long changed r =
      let within : i < length (map V xs) = omega (arith, length-map xs V) in
      let longs : length (map V ys) ≡ length (map V xs) = omega (arith, length-map xs V, length-map ys V) in
      let none : 0 + i ≡ i = omega arith in
      let here : R (0 + i) (get_or (map V ys) i (V x)) (V y) =
      subst (λ n. R n (get_or (map V ys) i (V x)) (V y)) (sym none)
      (subst (λ w. R i w (V y)) (sym (get_or-map V ys i x)) r) in
      rw (add-one, map-set V ys i y) (record {
        done = done_more R 0 i (map V xs) (map V ys) (V x) (V y) within changed.done changed.left here;
        left = left_more R i (map V xs) (map V ys) (V y) within longs changed.left;
      })

-- no chip of a rack hears anything
pub stays_all : (n : ℕ) (states : List ChipState) → NumberedZip Stays n states states
stays_all n [] = tt
stays_all n (s ∷ states) = (refl, stays_all (n + 1) states)

-- the named chip asks, so each chip may hear the step
pub may_hear_all : (romc : ℕ) (first : Option ℕ) (states : List ChipState) → ChosenAsks romc first states → AllMayHear romc first states
may_hear_all romc first states chosen k s here code mark =
    let named : NamesAsking first states = chosen code in
    let socket : named.socket ≡ k = eqb-true named.socket k (subst (λ f. is_first f k ≡ true) named.is mark) in
    let seated : slice_get states k ≡ Some named.chip = subst (λ n. slice_get states n ≡ Some named.chip) socket named.seated in
    let same : Some named.chip ≡ Some s = sym seated ∙ here in
    let chip : named.chip ≡ s = cc in
    subst (λ (c : ChipState). is_asking c.view ≡ true) chip named.asks

-- a list that is written back whole
pub whole_again : {X : Type 0} (n : ℕ) (xs ys : List X) → length xs ≡ n → length ys ≡ length xs → take n (ys ++ drop (length ys) xs) ≡ ys
whole_again n xs ys count long =
    let nothing : drop (length ys) xs ≡ [] = drop_of_length-le xs (omega arith) in
    rw (nothing, append-nil ys) (take_all n ys (omega arith))

-- every chip of a rack that is written back has changed
pub changed-written : {X A : Type 0} (V : X → A) (R : ℕ → A → A → Type 0) (xs ys : List X) (n i : ℕ) → length xs ≡ n → length ys ≡ length xs → length xs ≤ i →
    ChangedBelow R i (map V xs) (map V ys) → NumberedZip R 0 (map V xs) (map V (take n (ys ++ drop (length ys) xs)))
changed-written V R xs ys n i count long past changed =
    let past_all : length (map V xs) ≤ i = omega (arith, length-map xs V) in
    let longs : length (map V ys) ≡ length (map V xs) = omega (arith, length-map xs V, length-map ys V) in
    rw (whole_again n xs ys count long) (changed-whole R i (map V xs) (map V ys) past_all longs changed)
