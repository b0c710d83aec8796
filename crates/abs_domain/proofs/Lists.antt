-- Lists of parts, place by place.
use Rattle.std.proofs.Common.{◌≡◌, ◌<◌, ℕ, zero, suc, Bool, true, false, List, [], ◌∷◌, length, map, get_or, refl, ap, arith}
use Rattle.std.specs.Prelude.{Option, ◌&&◌}
use Rattle.abs_domain.specs.Lattice.{is_below, is_each_below, common, common_each}

module _ {X A : Type 0} (same : A → A → Bool) (V : X → Option A) where
  -- where each part is below, the lists are
  pub each_below_all : (xs ys : List X) (d e : X) → length xs ≡ length ys →
      ((k : ℕ) → k < length xs → is_below same (V (get_or xs k d)) (V (get_or ys k e)) ≡ true) →
      is_each_below same (map V xs) (map V ys) ≡ true
  each_below_all [] [] d e long each = refl
  each_below_all [] (y ∷ ys) d e long each = absurd (omega arith)
  each_below_all (x ∷ xs) [] d e long each = absurd (omega arith)
  each_below_all (x ∷ xs) (y ∷ ys) d e long each =
      rw (each 0 (omega arith)) (each_below_all xs ys d e (omega arith) (λ k small. each (suc k) (omega arith)))

  -- where one isn't, they aren't
  pub each_below_not : (xs ys : List X) (k : ℕ) (d e : X) → k < length xs → k < length ys →
      is_below same (V (get_or xs k d)) (V (get_or ys k e)) ≡ false → is_each_below same (map V xs) (map V ys) ≡ false
  each_below_not [] ys k d e in_first in_second not_below = absurd (omega arith)
  each_below_not (x ∷ xs) [] k d e in_first in_second not_below = absurd (omega arith)
  each_below_not (x ∷ xs) (y ∷ ys) zero d e in_first in_second not_below = rw not_below refl
  each_below_not (x ∷ xs) (y ∷ ys) (suc k) d e in_first in_second not_below =
      either (is_below same (V x) (V y)) (each_below_not xs ys k d e (omega arith) (omega arith) not_below)
    where
      either : (b : Bool) {r : Bool} → r ≡ false → (b && r) ≡ false
      either true gone = gone
      either false gone = refl

  -- a list that has what is common at each place is the common list
  pub common_each_from : (xs ys zs : List X) (d : X) → length xs ≡ length ys → length zs ≡ length xs →
      ((k : ℕ) → k < length xs → V (get_or zs k d) ≡ common same (V (get_or xs k d)) (V (get_or ys k d))) →
      map V zs ≡ common_each same (map V xs) (map V ys)
  common_each_from [] [] [] d long longer each = refl
  common_each_from [] (y ∷ ys) zs d long longer each = absurd (omega arith)
  common_each_from (x ∷ xs) [] zs d long longer each = absurd (omega arith)
  common_each_from [] [] (z ∷ zs) d long longer each = absurd (omega arith)
  common_each_from (x ∷ xs) (y ∷ ys) [] d long longer each = absurd (omega arith)
  common_each_from (x ∷ xs) (y ∷ ys) (z ∷ zs) d long longer each =
      rw (each 0 (omega arith))
      (ap (λ rest. common same (V x) (V y) ∷ rest)
      (common_each_from xs ys zs d (omega arith) (omega arith) (λ k small. each (suc k) (omega arith))))
