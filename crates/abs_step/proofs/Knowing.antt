-- A function of what is known keeps the order: from less, no more is known.
use Rattle.std.proofs.Common.{◌||◌, ◌≡◌, ℕ, zero, suc, Bool, true, false, ◌&&◌, List, [], ◌∷◌, refl}
use Rattle.std.specs.Prelude.{Option, Some, None, option_map, option_and_then, slice_index_or, ◌==◌, is_some, is_none, not}
use Rattle.std.specs.List.{AllZip}
use Rattle.abs_domain.specs.Lattice.{Below, FactBelow}
use Rattle.abs_step.specs.Known.{lift2, lift3, known_word, agree, known_or, known_not}

-- ---- two Booleans

-- one implies the other
abbrev pub Implies : Bool → Bool → Type 0
Implies a b = a ≡ true → b ≡ true

pub left_of : (a b : Bool) → (a && b) ≡ true → a ≡ true
left_of true b both = refl
left_of false b both = both

pub right_of : (a b : Bool) → (a && b) ≡ true → b ≡ true
right_of true b both = both
right_of false b both = absurd (cc)

pub both_of : (a b : Bool) → a ≡ true → b ≡ true → (a && b) ≡ true
both_of true b p q = q
both_of false b p q = absurd (cc)

pub is_not : (b : Bool) → not b ≡ false → b ≡ true
is_not true e = refl
is_not false e = absurd (cc)

-- all hold, and of any the one
pub all_and_any : (all any one : Bool) → (all && (not any || one)) ≡ true → (all ≡ true) × (any ≡ true → one ≡ true)
all_and_any true true true e = (refl, λ h. refl)
all_and_any true true false e = absurd (cc)
all_and_any true false one e = (refl, λ h. absurd (cc))
all_and_any false any one e = absurd (cc)

-- ---- functions

module _ {A B : Type 0} where
  pub below_map : (f : A → B) (x y : Option A) → Below x y → Below (option_map f x) (option_map f y)
  below_map f x None p = tt
  below_map f x (Some y) p = rw p refl

  pub below_and_then : (f g : A → Option B) (x y : Option A) → ((a : A) → Below (f a) (g a)) → Below x y →
      Below (option_and_then f x) (option_and_then g y)
  below_and_then f g x None each p = tt
  below_and_then f g x (Some y) each p = rw p (each y)

module _ {A B C : Type 0} where
  pub below_lift2 : (f : A → B → C) (x y : Option A) (u v : Option B) → Below x y → Below u v → Below (lift2 f x u) (lift2 f y v)
  below_lift2 f x None u v p q = tt
  below_lift2 f x (Some y) u None p q = tt
  below_lift2 f x (Some y) u (Some v) p q = rw (p, q) refl

module _ {A B C D : Type 0} where
  pub below_lift3 : (f : A → B → C → D) (x y : Option A) (u v : Option B) (s t : Option C) →
      Below x y → Below u v → Below s t → Below (lift3 f x u s) (lift3 f y v t)
  below_lift3 f x y u v s t p q r =
      below_lift2 (λ (g : C → D) w. g w) (lift2 f x u) (lift2 f y v) s t (below_lift2 f x y u v p q) r

pub below_word : (x y u v : Option ℕ) → Below x y → Below u v → Below (known_word x u) (known_word y v)
below_word x y u v p q = below_lift2 _ x y u v p q

pub below_at : (n : ℕ) (xs ys : List (Option ℕ)) → AllZip Below xs ys → Below (slice_index_or xs n None) (slice_index_or ys n None)
below_at n [] [] p = tt
below_at n [] (y ∷ ys) p = absurd p
below_at n (x ∷ xs) [] p = absurd p
below_at zero (x ∷ xs) (y ∷ ys) p = p.0
below_at (suc n) (x ∷ xs) (y ∷ ys) p = below_at n xs ys p.1

-- ---- tests of what is known

-- what is known above is known below
pub known_below : {A : Type 0} (x y : Option A) → Below x y → Implies (is_some y) (is_some x)
known_below x None p known = absurd (cc)
known_below x (Some y) p known = rw p refl

pub known_of : (o : Option ℕ) → is_none o ≡ false → is_some o ≡ true
known_of None e = absurd (cc)
known_of (Some v) e = refl

pub agree_below : (x y u v : Option ℕ) → Below x y → Below u v → FactBelow (agree x u) (agree y v)
agree_below x None u v p q = tt
agree_below x (Some y) u None p q = tt
agree_below x (Some y) u (Some v) p q = rw (p, q) (same (y == v))
  where
    same : (b : Bool) → FactBelow b b
    same true = refl
    same false = tt

pub or_below : (x y u v : Option Bool) → Below x y → Below u v → Below (known_or x u) (known_or y v)
or_below x (Some true) u v p q = rw p refl
or_below x (Some false) u v p q = rw p q
or_below (Some true) None u (Some true) p q = refl
or_below (Some false) None u (Some true) p q = q
or_below None None u (Some true) p q = rw q refl
or_below x None u (Some false) p q = tt
or_below x None u None p q = tt

pub not_below : (x y : Option Bool) → Below x y → Below (known_not x) (known_not y)
not_below x y p = below_map not x y p
