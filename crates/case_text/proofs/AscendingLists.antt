-- The order of a list, as a slice tells it.
use Rattle.std.proofs.Common.{◌≡◌, ℕ, zero, suc, ◌+◌, ◌<◌, Bool, true, false, List, [], ◌∷◌, length, get_or, refl, sym, arith}
use Rattle.std.specs.Prelude.{nat_lt, nat_le, ◌&&◌}
use Rattle.std.specs.List.{IsAllAdjacentAnswer}
use Rattle.std.proofs.Math.Numerals.{add-one}
use Rattle.std.proofs.lemmas.Bool.{le-leb}
use Rattle.case_text.specs.EntryWords.{is_ascending}

-- each number is below the next
in_order : (xs : List ℕ) → ((k : ℕ) (d : ℕ) → k + 1 < length xs → true ≡ nat_lt (get_or xs k d) (get_or xs (k + 1) d)) → is_ascending xs ≡ true
in_order [] each = refl
in_order (x ∷ []) each = refl
in_order (x ∷ y ∷ xs) each =
    rw (← each 0 0 (omega arith))
    (in_order (y ∷ xs) (λ k d within. let next = each (suc k) d (omega arith) in rw (add-one k) (rw (add-one (suc k)) at next)))

-- some number isn't below the next
out_of_order : (xs : List ℕ) (k : ℕ) → k + 1 < length xs → false ≡ nat_lt (get_or xs k 0) (get_or xs (k + 1) 0) → is_ascending xs ≡ false
out_of_order [] k within here = absurd (omega arith)
out_of_order (x ∷ []) k within here = absurd (omega arith)
out_of_order (x ∷ y ∷ xs) zero within here = rw (← here) refl
out_of_order (x ∷ y ∷ xs) (suc k) within here =
    let later = out_of_order (y ∷ xs) k (omega arith) (rw (add-one k) (rw (add-one (suc k)) at here)) in
    rw later (by (nat_lt x y))
  where
    by : (b : Bool) → (b && false) ≡ false
    by true = refl
    by false = refl

pub told_ascending : (xs : List ℕ) (r : Bool) → IsAllAdjacentAnswer (λ x y b. b ≡ nat_lt x y) xs r → r ≡ is_ascending xs
told_ascending xs true each = sym (in_order xs each)
told_ascending xs false some = sym (out_of_order xs some.0 some.1 (some.2 0))

-- a list that isn't empty has a number
pub told_listed : (xs : List ℕ) (r : Bool) → 0 < length xs → IsAllAdjacentAnswer (λ x y b. b ≡ nat_lt x y) xs r →
    r ≡ (nat_le 1 (length xs) && is_ascending xs)
told_listed [] r some answer = absurd (omega arith)
told_listed (x ∷ xs) r some answer = rw (le-leb 1 (length (x ∷ xs)) (omega arith)) (told_ascending (x ∷ xs) r answer)
