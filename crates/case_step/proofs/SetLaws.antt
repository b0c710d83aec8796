-- What holds of some element of a list, and what is known of a number and of a scratchpad by the sets that they are in.
use Rattle.std.proofs.Common.{◌≡◌, ◌==◌, ◌<◌, ◌≤◌, ◌+◌, ◌||◌, ◌&&◌, ℕ, zero, suc, Bool, true, false, List, [], ◌∷◌, ◌++◌, length, map}
use Rattle.std.proofs.Common.{refl, ap, sym, ◌⊎◌, inl, inr, arith}
use Rattle.std.proofs.lemmas.Bool.{eq-eqb}
use Rattle.std.specs.Prelude.{Option, Some, None, slice_index, slice_index_or, slice_set, flat_map}
use Rattle.std.specs.List.{AllZip, Contains, range_with_len}
use Rattle.abs_domain.specs.Lattice.{Below}
use Rattle.abs_domain.proofs.Orders.{numbers_tell}
use Rattle.abs_step.proofs.Knowing.{left_of, right_of}
use Rattle.abs_step.proofs.Members.{SomeOf}
use Rattle.value_sets.specs.ValueSets.{are_among, is_among, has, only, single}

-- ---- some element

module _ {A : Type 0} (P : A → Type 0) where
  some_left : (xs ys : List A) → SomeOf P xs → SomeOf P (xs ++ ys)
  some_left [] ys some = absurd some
  some_left (x ∷ xs) ys (inl here) = inl here
  some_left (x ∷ xs) ys (inr later) = inr (some_left xs ys later)

  some_right : (xs ys : List A) → SomeOf P ys → SomeOf P (xs ++ ys)
  some_right [] ys some = some
  some_right (x ∷ xs) ys some = inr (some_right xs ys some)

  -- the element itself
  pub some_found : (xs : List A) → SomeOf P xs → (x : A) × Contains xs x × P x
  some_found [] some = absurd some
  some_found (x ∷ xs) (inl here) = (x, (0, omega arith, refl), here)
  some_found (x ∷ xs) (inr later) =
      let rest = some_found xs later in
      let within : rest.1.0 < length xs = rest.1.1 in
      (rest.0, (suc rest.1.0, omega arith, rest.1.2), rest.2)

pub some_flat : {A B : Type 0} → (P : A → Type 0) (Q : B → Type 0) (f : A → List B) → ((x : A) → P x → SomeOf Q (f x)) →
    (xs : List A) → SomeOf P xs → SomeOf Q (flat_map f xs)
some_flat P Q f each [] some = absurd some
some_flat P Q f each (x ∷ xs) (inl here) = some_left Q (f x) (flat_map f xs) (each x here)
some_flat P Q f each (x ∷ xs) (inr later) = some_right Q (f x) (flat_map f xs) (some_flat P Q f each xs later)

-- ---- numbers of a list

-- the first number is this one, or it is among the others
first_or_among : (y : ℕ) (ys : List ℕ) (x : ℕ) → is_among (y ∷ ys) x ≡ true → (y ≡ x) ⊎ (is_among ys x ≡ true)
first_or_among y ys x among = by (y == x) refl among
  where
    by : (b : Bool) → (y == x) ≡ b → (b || is_among ys x) ≡ true → (y ≡ x) ⊎ (is_among ys x ≡ true)
    by true same among = inl ((numbers_tell y x).0 same)
    by false other among = inr among

among_more : (y : ℕ) (upper lower : List ℕ) → are_among upper lower ≡ true → are_among (y ∷ upper) lower ≡ true
among_more y upper [] all = refl
among_more y upper (x ∷ xs) all =
    by (y == x) (left_of (is_among upper x) (are_among upper xs) all) (among_more y upper xs (right_of (is_among upper x) (are_among upper xs) all))
  where
    by : (b : Bool) → is_among upper x ≡ true → are_among (y ∷ upper) xs ≡ true → ((b || is_among upper x) && are_among (y ∷ upper) xs) ≡ true
    by true one rest = rest
    by false one rest = rw (one) rest

-- each number of a list is among it
pub among_itself : (numbers : List ℕ) → are_among numbers numbers ≡ true
among_itself [] = refl
among_itself (x ∷ xs) = rw (eq-eqb x x refl) (among_more x xs xs (among_itself xs))

pub some_among : {A : Type 0} → (P : A → Type 0) (f : ℕ → A) (numbers : List ℕ) (x : ℕ) → is_among numbers x ≡ true → P (f x) →
    SomeOf P (map f numbers)
some_among P f [] x among holds = absurd (cc)
some_among P f (y ∷ ys) x among holds = by (first_or_among y ys x among) (some_among P f ys x)
  where
    by : (y ≡ x) ⊎ (is_among ys x ≡ true) → (is_among ys x ≡ true → P (f x) → SomeOf P (map f ys)) → SomeOf P (map f (y ∷ ys))
    by (inl same) later = inl (rw same holds)
    by (inr among) later = inr (later among holds)

pub among_range : (n from x : ℕ) → from ≤ x → x < from + n → is_among (range_with_len from n) x ≡ true
among_range zero from x low high = absurd (omega arith)
among_range (suc n) from x low high = by (from == x) refl (among_range n (from + 1) x)
  where
    by : (b : Bool) → (from == x) ≡ b → (from + 1 ≤ x → x < from + 1 + n → is_among (range_with_len (from + 1) n) x ≡ true) →
        (b || is_among (range_with_len (from + 1) n) x) ≡ true
    by true same later = refl
    by false other later =
        let unlike : from ≡ x → ⊥ = λ e. absurd (cc ((numbers_tell from x).1 e)) in
        later (omega arith) (omega arith)

-- ---- a set of one number

pub number_told : (numbers : List ℕ) (x : ℕ) → is_among numbers x ≡ true → Below (Some x) (only numbers)
number_told [] x among = tt
number_told (y ∷ []) x among = by (first_or_among y [] x among)
  where
    by : (y ≡ x) ⊎ (is_among [] x ≡ true) → Some x ≡ Some y
    by (inl same) = ap Some (sym same)
    by (inr none) = absurd (cc)
number_told (y ∷ z ∷ numbers) x among = tt

pub value_told : (values : Option (List ℕ)) (x : ℕ) → has values x ≡ true → Below (Some x) (single values)
value_told None x among = tt
value_told (Some numbers) x among = number_told numbers x among

-- ---- scratchpads

abbrev pub AreAllowed : List (Option (List ℕ)) → List ℕ → Type 0
AreAllowed values bytes = AllZip (λ set byte. has set byte ≡ true) values bytes

abbrev pub AreTold : List ℕ → List (Option ℕ) → Type 0
AreTold bytes known = AllZip Below (map Some bytes) known

-- a register beyond the end may have any byte
pub allowed_at : (number : ℕ) (values : List (Option (List ℕ))) (bytes : List ℕ) → AreAllowed values bytes →
    has (slice_index_or values number None) (slice_index bytes number) ≡ true
allowed_at number [] bytes h = refl
allowed_at number (set ∷ values) [] h = absurd h
allowed_at zero (set ∷ values) (byte ∷ bytes) h = h.0
allowed_at (suc number) (set ∷ values) (byte ∷ bytes) h = allowed_at number values bytes h.1

pub told_at : (number : ℕ) (bytes : List ℕ) (known : List (Option ℕ)) → AreTold bytes known →
    Below (Some (slice_index bytes number)) (slice_index_or known number None)
told_at number bytes [] h = tt
told_at number [] (k ∷ known) h = absurd h
told_at zero (byte ∷ bytes) (k ∷ known) h = h.0
told_at (suc number) (byte ∷ bytes) (k ∷ known) h = told_at number bytes known h.1

pub told_allowed : (values : List (Option (List ℕ))) (bytes : List ℕ) → AreAllowed values bytes → AreTold bytes (map single values)
told_allowed [] [] h = tt
told_allowed [] (byte ∷ bytes) h = absurd h
told_allowed (set ∷ values) [] h = absurd h
told_allowed (set ∷ values) (byte ∷ bytes) h = (value_told set byte h.0, told_allowed values bytes h.1)

-- a register is told its byte; one beyond the end changes nothing
pub told_set : (number : ℕ) (bytes : List ℕ) (known : List (Option ℕ)) → AreTold bytes known →
    AreTold bytes (slice_set known number (Some (slice_index bytes number)))
told_set number bytes [] h = h
told_set number [] (k ∷ known) h = absurd h
told_set zero (byte ∷ bytes) (k ∷ known) h = (refl, h.1)
told_set (suc number) (byte ∷ bytes) (k ∷ known) h = (h.0, told_set number bytes known h.1)
