-- Runs of addresses marked one after the other: a run that is free and inside is so in its parts.
use Rattle.std.proofs.Common.{◌≡◌, ℕ, zero, suc, ◌+◌, ◌-◌, ◌≤◌, Bool, true, false, List, [], ◌∷◌, drop, take, refl, ◌∙◌, arith}
use Rattle.std.specs.Prelude.{not}
use Rattle.std.specs.List.{list_any}
use Rattle.std.proofs.Math.Seq.{drop-nil}
use Rattle.std.proofs.lemmas.List.{drop-set-lt}
use Rattle.std.proofs.lemmas.Bool.Decides.{nat_tests}
use Rattle.f8_asm.specs.Image.{everywhere}
use Rattle.f8_asm.specs.Marks.{marks_with, is_free}
use Rattle.f8_asm.specs.PassTwo.{is_inside}

-- ---- no mark in a part of a list

any_front : (j k : ℕ) (xs : List Bool) → j ≤ k → list_any (λ m. m) (take k xs) ≡ false → list_any (λ m. m) (take j xs) ≡ false
any_front zero k xs less none = refl
any_front (suc j) zero xs less none = absurd (omega arith)
any_front (suc j) (suc k) [] less none = refl
any_front (suc j) (suc k) (true ∷ xs) less none = cc
any_front (suc j) (suc k) (false ∷ xs) less none = any_front j k xs (omega arith) none

any_none : (m : ℕ) → list_any (λ m. m) (take m []) ≡ false
any_none zero = refl
any_none (suc m) = refl

any_behind : (n m k : ℕ) (xs : List Bool) → n + m ≤ k → list_any (λ m. m) (take k xs) ≡ false → list_any (λ m. m) (take m (drop n xs)) ≡ false
any_behind zero m k xs less none = any_front m k xs (omega arith) none
any_behind (suc n) m k [] less none = rw (drop-nil (suc n)) (any_none m)
any_behind (suc n) m zero (x ∷ xs) less none = absurd (omega arith)
any_behind (suc n) m (suc k) (true ∷ xs) less none = cc
any_behind (suc n) m (suc k) (false ∷ xs) less none = any_behind n m k xs (omega arith) none

not_any : (b : Bool) → not b ≡ true → b ≡ false
not_any true h = cc
not_any false h = refl

-- ---- a run that is free, in two parts

drop_more : (k j : ℕ) (xs : List Bool) → drop (k + j) xs ≡ drop j (drop k xs)
drop_more zero j xs = let e : 0 + j ≡ j = omega arith in rw e refl
drop_more (suc k) j [] = rw (drop-nil (suc k + j), drop-nil (suc k), drop-nil j) refl
drop_more (suc k) j (x ∷ xs) = let e : suc k + j ≡ suc (k + j) = omega arith in rw e (drop_more k j xs)

drop_marked : (marks : List Bool) (at n k : ℕ) → at + n ≤ k → drop k (marks_with marks at n) ≡ drop k marks
drop_marked marks at zero k within = refl
drop_marked marks at (suc n) k within = drop-set-lt k (marks_with marks at n) (at + n) true (omega arith) ∙ drop_marked marks at n k (omega arith)

-- the front of a free run is free
pub free_front : (marks : List Bool) (at n m : ℕ) → n ≤ m → is_free marks at m ≡ true → is_free marks at n ≡ true
free_front marks at n m less free =
    let none : list_any (λ m. m) (take (at + m - at) (drop at marks)) ≡ false = not_any _ free in
    rw (any_front (at + n - at) (at + m - at) (drop at marks) (omega arith) none) refl

-- what lies behind the front is free when the front has been marked
pub free_behind : (marks : List Bool) (at n m k : ℕ) → n + m ≤ k → is_free marks at k ≡ true → is_free (marks_with marks at n) (at + n) m ≡ true
free_behind marks at n m k less free =
    let none : list_any (λ m. m) (take (at + k - at) (drop at marks)) ≡ false = not_any _ free in
    rw (
      drop_marked marks at n (at + n) (omega arith),
      drop_more at n marks,
      any_behind n (at + n + m - (at + n)) (at + k - at) (drop at marks) (omega arith) none,
    ) refl

-- marks of two runs, one behind the other
pub marks_joined : (marks : List Bool) (at n m : ℕ) → marks_with (marks_with marks at n) (at + n) m ≡ marks_with marks at (n + m)
marks_joined marks at n zero = let e : n + 0 ≡ n = omega arith in rw e refl
marks_joined marks at n (suc m) =
    let e : n + suc m ≡ suc (n + m) = omega arith in
    let place : at + n + m ≡ at + (n + m) = omega arith in
    rw (e, marks_joined marks at n m, place) refl

-- ---- a run inside

-- a part of a run that lies among all addresses
pub inside_part : (at total here size : ℕ) → here + size ≤ total → is_inside everywhere at total ≡ true → is_inside everywhere (at + here) size ≡ true
inside_part at total here size less inside = grind (arith, nat_tests)

-- bytes inside end by address 65,536
pub inside_end : (at size : ℕ) → at ≤ 65536 → is_inside everywhere at size ≡ true → at + size ≤ 65536
inside_end at size fits inside = grind (arith, nat_tests)
