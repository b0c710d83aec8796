-- Lists of different registers, one register behind the others.
use Rattle.std.proofs.Common.{◌≡◌, ℕ, ◌<◌, ◌==◌, ◌||◌, true, false, not, List, [], ◌∷◌, ◌++◌, length, refl, arith, inl, inr}
use Rattle.std.proofs.lemmas.Bool.{cases_Bool, and_parts, false≢true}
use Rattle.std.proofs.lemmas.Bool.Decides.{nat_tests}
use Rattle.std.proofs.lemmas.List.{length_push}
use Rattle.std.proofs.lemmas.List.Elements.{All-push}
use Rattle.cart_data.specs.Splits.{IsSplit, is_among, are_different}

among-push : (rs : List ℕ) (r x : ℕ) → is_among (rs ++ r ∷ []) x ≡ (is_among rs x || (r == x))
among-push [] r x = grind (arith, nat_tests)
among-push (y ∷ rs) r x = rw (among-push rs r x) (grind (arith, nat_tests))

pub different_push : (rs : List ℕ) (r : ℕ) → are_different rs ≡ true → is_among rs r ≡ false → are_different (rs ++ r ∷ []) ≡ true
different_push [] r d a = refl
different_push (x ∷ rs) r d a =
    let (here, more) = and_parts (not (is_among rs x)) (are_different rs) d in
    let apart : (x == r) ≡ false = grind (arith, nat_tests, a) in
    let away : is_among rs r ≡ false = grind (arith, nat_tests, a) in
    rw (among-push rs r x, different_push rs r more away) (grind (arith, nat_tests, here, apart))

among_middle : (rs : List ℕ) (r : ℕ) (more : List ℕ) (x : ℕ) → (r == x) ≡ true → is_among (rs ++ r ∷ more) x ≡ true
among_middle [] r more x h = rw h refl
among_middle (y ∷ rs) r more x h = rw (among_middle rs r more x h) (grind (arith, nat_tests))

pub not_different : (rs : List ℕ) (r : ℕ) (more : List ℕ) → is_among rs r ≡ true → are_different (rs ++ r ∷ more) ≡ false
not_different [] r more a = absurd (false≢true a)
not_different (x ∷ rs) r more a =
    elim (cases_Bool (x == r)) [
      | inl same ↦
          let here : is_among (rs ++ r ∷ more) x ≡ true = among_middle rs r more x (grind (arith, nat_tests, same)) in
          rw here refl
      | inr apart ↦
          let away : is_among rs r ≡ true = grind (arith, nat_tests, a, apart) in
          rw (not_different rs r more away) (grind (arith, nat_tests))
    ]

pub split_push : (rs : List ℕ) (r : ℕ) → IsSplit rs → length rs < 8 → r < 64 → is_among rs r ≡ false → IsSplit (rs ++ r ∷ [])
split_push rs r s few below a =
    let pushed = length_push rs r in record {
      few = omega arith;
      below = All-push (λ x. x < 64) rs r s.below below;
      different = different_push rs r s.different a;
    }
