-- What holds of each element of a list, and of some element.
use Rattle.std.proofs.Common.{◌≡◌, ◌<◌, zero, suc, Bool, true, false, ◌||◌, List, [], ◌∷◌, length, map, refl, sym, subst, ◌⊎◌, inl, inr}
use Rattle.std.proofs.Common.{arith}
use Rattle.std.specs.List.{AllByRecursion, Contains, list_any}

-- tests that hold of each other
pub same_tests : (b c : Bool) → (b ≡ true → c ≡ true) → (c ≡ true → b ≡ true) → b ≡ c
same_tests true c to from = sym (to refl)
same_tests false true to from = from refl
same_tests false false to from = refl

-- x is in the list
abbrev pub IsIn : {A : Type 0} → A → List A → Type 0
IsIn x [] = ⊥
IsIn x (y ∷ ys) = (y ≡ x) ⊎ IsIn x ys

-- P holds of some element
abbrev pub SomeOf : {A : Type 0} → (A → Type 0) → List A → Type 0
SomeOf P [] = ⊥
SomeOf P (x ∷ xs) = P x ⊎ SomeOf P xs

module _ {A : Type 0} where
  pub in_of_contains : (xs : List A) (x : A) → Contains xs x → IsIn x xs
  in_of_contains [] x has = absurd (omega (arith, has.1))
  in_of_contains (y ∷ ys) x (zero, within, is) = inl is
  in_of_contains (y ∷ ys) x (suc k, within, is) = inr (in_of_contains ys x (k, omega arith, is))

  pub contains_of_in : (xs : List A) (x : A) → IsIn x xs → Contains xs x
  contains_of_in [] x is = absurd is
  contains_of_in (y ∷ ys) x (inl here) = (0, omega arith, here)
  contains_of_in (y ∷ ys) x (inr later) =
      let rest = contains_of_in ys x later in
      let within : rest.0 < length ys = rest.1 in
      (suc rest.0, omega arith, rest.2)

  pub all_of : (P : A → Type 0) (xs : List A) → ((x : A) → IsIn x xs → P x) → AllByRecursion P xs
  all_of P [] each = tt
  all_of P (x ∷ xs) each = (each x (inl refl), all_of P xs (λ y later. each y (inr later)))

  pub from_all : (P : A → Type 0) (xs : List A) (x : A) → AllByRecursion P xs → IsIn x xs → P x
  from_all P [] x all is = absurd is
  from_all P (y ∷ ys) x all (inl here) = subst P here all.0
  from_all P (y ∷ ys) x all (inr later) = from_all P ys x all.1 later

  pub all_map : (P Q : A → Type 0) (xs : List A) → ((x : A) → P x → Q x) → AllByRecursion P xs → AllByRecursion Q xs
  all_map P Q [] f all = tt
  all_map P Q (x ∷ xs) f all = (f x all.0, all_map P Q xs f all.1)

  pub all_both : (P Q : A → Type 0) (xs : List A) → AllByRecursion P xs → AllByRecursion Q xs → AllByRecursion (λ x. P x × Q x) xs
  all_both P Q [] p q = tt
  all_both P Q (x ∷ xs) p q = ((p.0, q.0), all_both P Q xs p.1 q.1)

  pub some_map : (P Q : A → Type 0) (xs : List A) → AllByRecursion (λ x. P x → Q x) xs → SomeOf P xs → SomeOf Q xs
  some_map P Q [] f some = absurd some
  some_map P Q (x ∷ xs) f (inl here) = inl (f.0 here)
  some_map P Q (x ∷ xs) f (inr later) = inr (some_map P Q xs f.1 later)

  -- ---- tests

  pub any_in : (test : A → Bool) (xs : List A) (x : A) → IsIn x xs → test x ≡ true → list_any test xs ≡ true
  any_in test [] x is holds = absurd is
  any_in test (y ∷ ys) x (inl here) holds = rw (here, holds) refl
  any_in test (y ∷ ys) x (inr later) holds = rw (any_in test ys x later holds) (either (test y))
    where
      either : (b : Bool) → (b || true) ≡ true
      either true = refl
      either false = refl

  pub some_of_any : (test : A → Bool) (xs : List A) → list_any test xs ≡ true → SomeOf (λ x. test x ≡ true) xs
  some_of_any test [] any = absurd (cc)
  some_of_any test (x ∷ xs) any = by (test x) refl any (some_of_any test xs)
    where
      by : (b : Bool) → test x ≡ b → (b || list_any test xs) ≡ true →
          (list_any test xs ≡ true → SomeOf (λ y. test y ≡ true) xs) → (test x ≡ true) ⊎ SomeOf (λ y. test y ≡ true) xs
      by true e any later = inl e
      by false e any later = inr (later any)

  pub none_of_any : (test : A → Bool) (xs : List A) → list_any test xs ≡ false → AllByRecursion (λ x. test x ≡ false) xs
  none_of_any test [] none = tt
  none_of_any test (x ∷ xs) none = by (test x) refl none (none_of_any test xs)
    where
      by : (b : Bool) → test x ≡ b → (b || list_any test xs) ≡ false →
          (list_any test xs ≡ false → AllByRecursion (λ y. test y ≡ false) xs) → (test x ≡ false) × AllByRecursion (λ y. test y ≡ false) xs
      by true e none later = absurd (cc)
      by false e none later = (e, later none)

module _ {A B : Type 0} where
  pub all_mapped : (f : A → B) (P : B → Type 0) (xs : List A) → AllByRecursion (λ x. P (f x)) xs → AllByRecursion P (map f xs)
  all_mapped f P [] all = tt
  all_mapped f P (x ∷ xs) all = (all.0, all_mapped f P xs all.1)

  pub all_unmapped : (f : A → B) (P : B → Type 0) (xs : List A) → AllByRecursion P (map f xs) → AllByRecursion (λ x. P (f x)) xs
  all_unmapped f P [] all = tt
  all_unmapped f P (x ∷ xs) all = (all.0, all_unmapped f P xs all.1)

  pub some_mapped : (f : A → B) (P : B → Type 0) (xs : List A) → SomeOf (λ x. P (f x)) xs → SomeOf P (map f xs)
  some_mapped f P [] some = some
  some_mapped f P (x ∷ xs) (inl here) = inl here
  some_mapped f P (x ∷ xs) (inr later) = inr (some_mapped f P xs later)

  pub some_unmapped : (f : A → B) (P : B → Type 0) (xs : List A) → SomeOf P (map f xs) → SomeOf (λ x. P (f x)) xs
  some_unmapped f P [] some = some
  some_unmapped f P (x ∷ xs) (inl here) = inl here
  some_unmapped f P (x ∷ xs) (inr later) = inr (some_unmapped f P xs later)
