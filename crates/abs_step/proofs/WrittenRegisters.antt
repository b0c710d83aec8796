-- Lists that have at each place what a write leaves there, or what a function gives.
use Rattle.std.proofs.Common.{◌≡◌, ◌+◌, ◌<◌, ℕ, zero, suc, List, [], ◌∷◌, length, map, get_or, refl, ap, arith}
use Rattle.std.specs.Prelude.{Option}
use Rattle.std.specs.List.{range_with_len}
use Rattle.abs_step.specs.RegisterWrites.{RegisterWrite, written_to, written_from}

module _ {X : Type 0} (V : X → Option ℕ) (w : RegisterWrite) where
  pub written_each : (n : ℕ) (xs zs : List X) (d : X) → length zs ≡ length xs →
      ((k number : ℕ) → k < length xs → number ≡ n + k → V (get_or zs k d) ≡ written_to w number (V (get_or xs k d))) →
      map V zs ≡ written_from n w (map V xs)
  written_each n [] [] d long each = refl
  written_each n [] (z ∷ zs) d long each = absurd (omega arith)
  written_each n (x ∷ xs) [] d long each = absurd (omega arith)
  written_each n (x ∷ xs) (z ∷ zs) d long each =
      rw (each 0 n (omega arith) (omega arith))
      (ap (λ rest. written_to w n (V x) ∷ rest)
      (written_each (n + 1) xs zs d (omega arith) (λ k number small same. each (suc k) number (omega arith) (omega arith))))

-- a list that has what a function gives at each place is the list of it
pub each_place : {A : Type 0} (f : ℕ → A) (start n : ℕ) (xs : List A) (d : A) → length xs ≡ n →
    ((k number : ℕ) → k < n → number ≡ start + k → get_or xs k d ≡ f number) → xs ≡ map f (range_with_len start n)
each_place f start zero [] d long each = refl
each_place f start zero (x ∷ xs) d long each = absurd (omega arith)
each_place f start (suc n) [] d long each = absurd (omega arith)
each_place f start (suc n) (x ∷ xs) d long each =
    rw (each 0 start (omega arith) (omega arith))
    (ap (λ rest. f start ∷ rest)
    (each_place f (start + 1) n xs d (omega arith) (λ k number small same. each (suc k) number (omega arith) (omega arith))))
