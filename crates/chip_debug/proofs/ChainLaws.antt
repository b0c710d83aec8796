-- What holds of some chip described: by the sockets of the chain, as it does by the rack's.
use Rattle.std.proofs.Common.{◌≡◌, ℕ, zero, suc, ◌+◌, ◌<◌, ◌≤◌, Bool, true, false, List, [], ◌∷◌, length, take, refl, sym, ap, ap₂, ◌∙◌}
use Rattle.std.proofs.Common.{arith, zero-add}
use Rattle.std.specs.Prelude.{◌==◌, ◌||◌, ◌&&◌, slice_get, Option, Some, None}
use Rattle.std.specs.List.{enumerate_from, filter, list_any}
use Rattle.std.proofs.lemmas.Bool.Decides.{nat_tests}

-- what is in a place passes a test, if anything is
abbrev pub passes : {A : Type 0} → (A → Bool) → Option A → Bool
passes test None = false
passes test (Some x) = test x

-- ---- tests of a list

filtered_first : {A : Type 0} (test keep : A → Bool) (x : A) (xs : List A) (rest b : Bool) → keep x ≡ b →
    list_any test (filter keep xs) ≡ rest → list_any test (filter keep (x ∷ xs)) ≡ ((keep x && test x) || rest)
filtered_first test keep x xs rest true kept more = rw (kept, more) refl
filtered_first test keep x xs rest false dropped more = rw (dropped, more) refl

any_filtered : {A : Type 0} (test keep : A → Bool) (xs : List A) →
    list_any test (filter keep xs) ≡ list_any (λ x. keep x && test x) xs
any_filtered test keep [] = refl
any_filtered test keep (x ∷ xs) = filtered_first test keep x xs _ (keep x) refl (any_filtered test keep xs)

spread : (a b r u v : Bool) → (((a || b) && r) || (u || v)) ≡ (((a && r) || u) || ((b && r) || v))
spread true b true u v = refl
spread true true false true v = refl
spread true true false false v = refl
spread true false false true v = refl
spread true false false false v = refl
spread false true true true v = refl
spread false true true false v = refl
spread false true false u v = refl
spread false false r u v = refl

any_either : {A : Type 0} (one other test : A → Bool) (xs : List A) →
    list_any (λ x. (one x || other x) && test x) xs
    ≡ (list_any (λ x. one x && test x) xs || list_any (λ x. other x && test x) xs)
any_either one other test [] = refl
any_either one other test (x ∷ xs) =
    rw (any_either one other test xs)
    (spread (one x) (other x) (test x) (list_any (λ y. one y && test y) xs) (list_any (λ y. other y && test y) xs))

any_nowhere : {A : Type 0} (test : A → Bool) (xs : List A) → list_any (λ x. false && test x) xs ≡ false
any_nowhere test [] = refl
any_nowhere test (x ∷ xs) = any_nowhere test xs

-- ---- the element in a place

abbrev at_place : {A : Type 0} → ℕ → (A → Bool) → ℕ × A → Bool
at_place place test x = (place == x.0) && test x.1

before_all : {A : Type 0} (test : A → Bool) (place n : ℕ) (xs : List A) → place < n →
    list_any (at_place place test) (enumerate_from n xs) ≡ false
before_all test place n [] before = refl
before_all test place n (x ∷ xs) before =
    let other : (place == n) ≡ false = grind (arith, nat_tests) in
    rw other (before_all test place (n + 1) xs (omega arith))

or_none : (b : Bool) → (b || false) ≡ b
or_none true = refl
or_none false = refl

one_place : {A : Type 0} (test : A → Bool) (place n k : ℕ) (xs : List A) → place ≡ n + k →
    list_any (at_place place test) (enumerate_from n xs) ≡ passes test (slice_get xs k)
one_place test place n k [] is = refl
one_place test place n zero (x ∷ xs) is =
    let here : (place == n) ≡ true = grind (arith, nat_tests) in
    rw (here, before_all test place (n + 1) xs (omega arith)) (or_none (test x))
one_place test place n (suc k) (x ∷ xs) is =
    let other : (place == n) ≡ false = grind (arith, nat_tests) in
    rw other (one_place test place (n + 1) k xs (omega arith))

pub any_of_all : {A : Type 0} (test : A → Bool) (n : ℕ) (xs : List A) → length xs ≤ n → list_any test (take n xs) ≡ list_any test xs
any_of_all test zero [] past = refl
any_of_all test zero (x ∷ xs) past = absurd (omega (arith, past))
any_of_all test (suc n) [] past = refl
any_of_all test (suc n) (x ∷ xs) past = ap (λ (more : Bool). test x || more) (any_of_all test n xs (omega (arith, past)))

-- ---- those that are named

pub any_named : {A : Type 0} (test : A → Bool) (names : List ℕ) (xs : List A) →
    list_any (λ x. test x.1) (filter (λ x. list_any (λ name. name == x.0) names) (enumerate_from 0 xs))
    ≡ list_any (λ name. passes test (slice_get xs name)) names
any_named test [] xs =
    any_filtered (λ x. test x.1) (λ x. false) (enumerate_from 0 xs)
    ∙ any_nowhere (λ x. test x.1) (enumerate_from 0 xs)
any_named test (name ∷ names) xs =
    any_filtered (λ x. test x.1) (λ x. list_any (λ n. n == x.0) (name ∷ names)) (enumerate_from 0 xs)
    ∙ any_either (λ x. name == x.0) (λ x. list_any (λ n. n == x.0) names) (λ x. test x.1) (enumerate_from 0 xs)
    ∙ ap₂ (λ (a : Bool) (b : Bool). a || b) (one_place test name 0 name xs (sym (zero-add name)))
    (sym (any_filtered (λ x. test x.1) (λ x. list_any (λ n. n == x.0) names) (enumerate_from 0 xs))
    ∙ any_named test names xs)
