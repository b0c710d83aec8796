-- Lists that are made by a function of the index.
use Rattle.std.proofs.Common.{◌≡◌, ◌≢◌, ℕ, zero, suc, ◌+◌, ◌<◌, List, ◌∷◌, length, get_or, set, map, refl, sym, ap, ◌∙◌, arith, ⊎_elim}
use Rattle.std.specs.Prelude.{replicate}
use Rattle.std.specs.List.{range_with_len}
use Rattle.std.proofs.lemmas.List.{length-set, get_or-set_same, get_or-set_other}
use Rattle.std.proofs.lemmas.Bool.{cases_eq}
use Rattle.std.proofs.lemmas.List.FromFn.{length-map-range_with_len, get_or-map-range_with_len, fill_by_all}

pub map-constant : {X : Type 0} (v : X) (a n : ℕ) → map (λ k. v) (range_with_len a n) ≡ replicate n v
map-constant v a zero = refl
map-constant v a (suc n) = ap (λ vs. v ∷ vs) (map-constant v (a + 1) n)

-- lists made by two functions that agree
pub map-same : {X : Type 0} (f g : ℕ → X) (n : ℕ) (d : X) → ((k : ℕ) → k < n → f k ≡ g k) → map f (range_with_len 0 n) ≡ map g (range_with_len 0 n)
map-same f g n d same =
    fill_by_all g (map f (range_with_len 0 n)) n d (length-map-range_with_len f 0 n)
    (λ k h. get_or-map-range_with_len f 0 n k k d h (omega arith) ∙ same k h)

-- a list made by f with one element set is made by g, which differs there alone
pub set-made : {X : Type 0} (f g : ℕ → X) (n i : ℕ) (v : X) → i < n → g i ≡ v → ((k : ℕ) → k < n → k ≢ i → g k ≡ f k) →
    set (map f (range_with_len 0 n)) i v ≡ map g (range_with_len 0 n)
set-made {X} f g n i v inside here elsewhere =
    let xs : List X = map f (range_with_len 0 n) in
    let long : length xs ≡ n = length-map-range_with_len f 0 n in
    fill_by_all g (set xs i v) n v (length-set xs i v ∙ long) (λ k h. ⊎_elim
    (λ same. let place : i < length xs = omega arith in ap (λ j. get_or (set xs i v) j v) same ∙ get_or-set_same xs i v v place ∙ sym here ∙ ap g (sym same))
    (λ differs. get_or-set_other xs i k v v differs ∙ get_or-map-range_with_len f 0 n k k v h (omega arith) ∙ sym (elsewhere k h differs))
    (cases_eq k i))
