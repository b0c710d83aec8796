-- Two functions of a number that are equal at each number below a bound, shown by computing both there.
use Rattle.std.proofs.Common.{◌≡◌, ℕ, ◌<◌, inl, inr, zero, suc, List, [], ◌∷◌, arith}
use Rattle.std.proofs.lemmas.Bool.{cases_eq}

-- the values of f below n, the last first
unfoldable pub values_below : {A : Type 0} → (ℕ → A) → ℕ → List A
values_below f zero = []
values_below f (suc n) = f n ∷ values_below f n

-- where the values are equal, so is the value at each number
pub same_below : {A : Type 0} (f g : ℕ → A) (n k : ℕ) → values_below f n ≡ values_below g n → k < n → f k ≡ g k
unfolding values_below
same_below f g zero k same below = absurd (omega arith)
same_below f g (suc n) k same below =
    elim (cases_eq k n) [
      | inl at_last ↦ cc
      | inr earlier ↦ same_below f g n k (cc) (omega arith)
    ]
