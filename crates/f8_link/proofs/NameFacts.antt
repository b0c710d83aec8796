-- Names with values, looked up behind one another.
use Rattle.std.proofs.Common.{◌≡◌, ℕ, Bool, true, false, ◌||◌, List, [], ◌∷◌, ◌++◌, length, map, Option, Some, None, is_some}
use Rattle.std.proofs.Common.{refl, sym, ap, ◌∙◌, subst, true≢false, zero, suc}
use Rattle.std.specs.Prelude.{if◌then◌else◌, bytes_eq, option_map, slice_get}
use Rattle.std.specs.Option.{option_or}
use Rattle.std.proofs.lemmas.Slice.Eq.{bytes_eq-Decides}
use Rattle.f8_asm.specs.Names.{value_of, with_name}
use Rattle.f8_link.specs.OneSource.{has}

-- the names of a table
abbrev pub names_of : {A : Type 0} → List (List ℕ × A) → List (List ℕ)
names_of es = map (λ e. e.0) es

-- ---- tests

pub same_name : (x y : List ℕ) → bytes_eq x y ≡ true → x ≡ y
same_name x y h = (bytes_eq-Decides x y).0 h

pub name_itself : (x : List ℕ) → bytes_eq x x ≡ true
name_itself x = (bytes_eq-Decides x x).1 refl

pub not_true : (b : Bool) → (b ≡ true → ⊥) → b ≡ false
not_true true never = absurd (never refl)
not_true false never = refl

pub not_both : {P : Type 0} (b : Bool) → b ≡ true → b ≡ false → P
not_both b is other = absurd (true≢false (sym is ∙ other))

-- names that are told apart one way are so the other way
pub apart_turned : (x y : List ℕ) → bytes_eq x y ≡ false → bytes_eq y x ≡ false
apart_turned x y other = not_true (bytes_eq y x)
    (λ is. not_both (bytes_eq x y) (subst (λ z. bytes_eq x z ≡ true) (sym (same_name y x is)) (name_itself x)) other)

-- ---- values

module _ {A : Type 0} where
  or_if : (t : Bool) (v : A) (o p q : Option A) → o ≡ option_or p q → (if t then Some v else o) ≡ option_or (if t then Some v else p) q
  or_if true v o p q h = refl
  or_if false v o p q h = h

  -- in two tables one behind the other
  pub value_of-append : (xs ys : List (List ℕ × A)) (x : List ℕ) → value_of (xs ++ ys) x ≡ option_or (value_of xs x) (value_of ys x)
  value_of-append [] ys x = refl
  value_of-append (e ∷ es) ys x = or_if (bytes_eq x e.0) e.1 (value_of (es ++ ys) x) (value_of es x) (value_of ys x) (value_of-append es ys x)

  pub value_in_front : (xs ys : List (List ℕ × A)) (x : List ℕ) (v : A) → value_of xs x ≡ Some v → value_of (xs ++ ys) x ≡ Some v
  value_in_front xs ys x v h = value_of-append xs ys x ∙ rw h refl

  pub value_behind : (xs ys : List (List ℕ × A)) (x : List ℕ) → value_of xs x ≡ None → value_of (xs ++ ys) x ≡ value_of ys x
  value_behind xs ys x h = value_of-append xs ys x ∙ rw h refl

  given_by : (t : Bool) (e : List ℕ × A) (es : List (List ℕ × A)) (x : List ℕ) (v : A)
      → (value_of es x ≡ None → with_name es x v ≡ es ++ (x, v) ∷ []) → (if t then Some e.1 else value_of es x) ≡ None
      → (if t then (e.0, v) ∷ es else e ∷ with_name es x v) ≡ e ∷ (es ++ (x, v) ∷ [])
  given_by true e es x v goes new = cc new
  given_by false e es x v goes new = ap (λ r. e ∷ r) (goes new)

  -- a new name stands behind the others
  pub given : (es : List (List ℕ × A)) (x : List ℕ) (v : A) → value_of es x ≡ None → with_name es x v ≡ es ++ (x, v) ∷ []
  given [] x v new = refl
  given (e ∷ es) x v new = given_by (bytes_eq x e.0) e es x v (λ h. given es x v h) new

  some_if : (t b : Bool) (v : A) (o : Option A) → b ≡ is_some o → (t || b) ≡ is_some (if t then Some v else o)
  some_if true b v o h = refl
  some_if false b v o h = h

  -- a table has a value for the names in it
  pub has-names_of : (es : List (List ℕ × A)) (x : List ℕ) → has (names_of es) x ≡ is_some (value_of es x)
  has-names_of [] x = refl
  has-names_of (e ∷ es) x = some_if (bytes_eq x e.0) (has (names_of es) x) e.1 (value_of es x) (has-names_of es x)

  pub none_from : (o : Option A) → is_some o ≡ false → o ≡ None
  none_from None h = refl
  none_from (Some v) h = absurd (true≢false h)

  pub some_from : (o : Option A) → is_some o ≡ true → (v : A) × (o ≡ Some v)
  some_from None h = absurd (true≢false (sym h))
  some_from (Some v) h = (v, refl)

  pub some_none : {P : Type 0} (o : Option A) → is_some o ≡ true → o ≡ None → P
  some_none o is other = not_both (is_some o) is (ap is_some other)

  pub no_value : (es : List (List ℕ × A)) (x : List ℕ) → has (names_of es) x ≡ false → value_of es x ≡ None
  no_value es x h = none_from (value_of es x) (sym (has-names_of es x) ∙ h)

-- ---- values and names changed

module _ {A B : Type 0} (change : A → B) (rename : List ℕ → List ℕ) (apart : (x y : List ℕ) → bytes_eq (rename x) (rename y) ≡ bytes_eq x y) where
  map_if : (t : Bool) (v : A) (o : Option A) (p : Option B) → p ≡ option_map change o
      → (if t then Some (change v) else p) ≡ option_map change (if t then Some v else o)
  map_if true v o p h = refl
  map_if false v o p h = h

  -- names that stay apart find what they found
  pub renamed_value : (es : List (List ℕ × A)) (x : List ℕ)
      → value_of (map (λ e. (rename e.0, change e.1)) es) (rename x) ≡ option_map change (value_of es x)
  renamed_value [] x = refl
  renamed_value (e ∷ es) x =
      rw (apart x e.0)
      (map_if (bytes_eq x e.0) e.1 (value_of es x) (value_of (map (λ e. (rename e.0, change e.1)) es) (rename x)) (renamed_value es x))

-- no name of a table changed so is this one
pub nowhere : {A B : Type 0} (change : A → B) (rename : List ℕ → List ℕ) (es : List (List ℕ × A)) (y : List ℕ)
    → ((x : List ℕ) → bytes_eq y (rename x) ≡ false) → value_of (map (λ e. (rename e.0, change e.1)) es) y ≡ None
nowhere change rename [] y other = refl
nowhere change rename (e ∷ es) y other = rw (other e.0) (nowhere change rename es y other)

-- ---- places in a list

module _ {A : Type 0} where
  pub slice_get_front : (xs ys : List A) (i : ℕ) (x : A) → slice_get xs i ≡ Some x → slice_get (xs ++ ys) i ≡ Some x
  slice_get_front [] ys i x h = cc h
  slice_get_front (y ∷ xs) ys zero x h = h
  slice_get_front (y ∷ xs) ys (suc i) x h = slice_get_front xs ys i x h

  pub slice_get_last : (xs : List A) (x : A) → slice_get (xs ++ x ∷ []) (length xs) ≡ Some x
  slice_get_last [] x = refl
  slice_get_last (y ∷ xs) x = slice_get_last xs x
