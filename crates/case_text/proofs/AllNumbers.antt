-- Numbers from 0 on, one after another.
use Rattle.std.proofs.Common.{◌≡◌, ℕ, zero, suc, ◌+◌, ◌<◌, List, [], ◌∷◌, ◌++◌, refl, ap, arith}
use Rattle.std.specs.List.{All, range_with_len}
use Rattle.std.proofs.Math.Numerals.{add-one}
use Rattle.std.proofs.lemmas.List.FromFn.{get_or-range_with_len, length-range_with_len}

more_from : (a n : ℕ) → range_with_len a (suc n) ≡ range_with_len a n ++ (a + n) ∷ []
more_from a zero = let here : a + 0 ≡ a = omega arith in rw here refl
more_from a (suc n) =
    let here : a + suc n ≡ a + 1 + n = omega arith in
    rw here (ap (λ (xs : List ℕ). a ∷ xs) (more_from (a + 1) n))

-- one number more
pub range_more : (n : ℕ) → range_with_len 0 (n + 1) ≡ range_with_len 0 n ++ n ∷ []
range_more n = let here : 0 + n ≡ n = omega arith in rw (add-one n) (rw here at (more_from 0 n))

-- each is below their number
pub All-range : (n : ℕ) → All (λ number. number < n) (range_with_len 0 n)
All-range n k d within =
    let size = length-range_with_len 0 n in
    let small : k < n = omega (arith, size, within) in
    rw (get_or-range_with_len 0 n k d small) (omega arith)
