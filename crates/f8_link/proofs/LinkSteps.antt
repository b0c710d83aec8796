-- Loops over steps that may want memory: where one begins, goes on, ends and stops.
use Rattle.std.proofs.Common.{◌≡◌, ℕ, ◌+◌, ◌<◌, ◌≤◌, List, ◌∷◌, ◌++◌, length, get_or, take, drop, Ok, Err, Result, refl, sym, ◌∙◌, ap, suc}
use Rattle.std.proofs.Common.{add-one}
use Rattle.std.proofs.Math.Seq.{drop-cons, take-append_seam}
use Rattle.std.proofs.lemmas.List.{drop_all, get_or_default}
use Rattle.text_lines.specs.declared.read_error.ReadError.{ReadError}
use Rattle.text_lines.specs.declared.read_error.ReadError.TheVariants as answer
use Rattle.text_lines.specs.ReadErrors.{Says, StepsTo}
use Rattle.f8_asm.specs.Answers.{◌>>=◌}
use Rattle.f8_asm.specs.Steps.{steps}
use Rattle.f8_asm.proofs.Steps.{steps_end, steps_more, steps_fail}

-- what is left of a list begins with the next
pub drop_next : {X : Type 0} (xs : List X) (i : ℕ) (x : X) → i < length xs → x ≡ get_or xs i x → drop i xs ≡ x ∷ drop (i + 1) xs
drop_next xs i x within is = rw (add-one i, drop-cons xs i x) (ap (λ q. q ∷ drop (suc i) xs) (sym is))

module _ {S X F : Type 0} (step : S → X → Result S F) where
  -- the steps taken and those that follow make the whole
  pub record StepsOn (s : S) (rest : List X) (whole : Result S F) : Type 0 where
    pub is : steps step s rest ≡ whole

  module _ {s : S} {whole : Result S F} where
    pub all_at : (xs : List X) (i : ℕ) → StepsOn s (drop i xs) whole → length xs ≤ i → whole ≡ Ok s
    all_at xs i on past = sym (rw (drop_all i xs past) at on.is) ∙ steps_end step s

    pub more_at : (xs : List X) (i : ℕ) (x : X) (t : S) → StepsOn s (drop i xs) whole → i < length xs → x ≡ get_or xs i x → step s x ≡ Ok t
        → StepsOn t (drop (i + 1) xs) whole
    more_at xs i x t on within is told = record { is = steps_more step s t x (drop (i + 1) xs) told ∙ rw (drop_next xs i x within is) at on.is }

    pub fail_at : (xs : List X) (i : ℕ) (x : X) (e : F) → StepsOn s (drop i xs) whole → i < length xs → x ≡ get_or xs i x → step s x ≡ Err e
        → whole ≡ Err e
    fail_at xs i x e on within is told = sym (rw (drop_next xs i x within is) at on.is) ∙ steps_fail step s x (drop (i + 1) xs) e told

    -- the same where the next is read with a default
    pub more_from : (xs : List X) (i : ℕ) (d : X) (t : S) → StepsOn s (drop i xs) whole → i < length xs → step s (get_or xs i d) ≡ Ok t
        → StepsOn t (drop (i + 1) xs) whole
    more_from xs i d t on within told = more_at xs i (get_or xs i d) t on within (get_or_default xs i d (get_or xs i d) within) told

    pub fail_from : (xs : List X) (i : ℕ) (d : X) (e : F) → StepsOn s (drop i xs) whole → i < length xs → step s (get_or xs i d) ≡ Err e
        → whole ≡ Err e
    fail_from xs i d e on within told = fail_at xs i (get_or xs i d) e on within (get_or_default xs i d (get_or xs i d) within) told

-- a step that stops says so of its state
pub says_stop : {S F : Type 0} (stop : ReadError F) (new : S) (said : Result S F) → StepsTo (Err stop) new said → Says {A = S} (Err stop) said
says_stop (answer.Fault fault) new said told = told
says_stop answer.Memory new said told = tt

-- and all that would follow
pub says_then : {A B F : Type 0} (r : Result A F) (f : A → Result B F) (stop : ReadError F) → Says {A = A} (Err stop) r → Says {A = B} (Err stop) (r >>= f)
says_then r f (answer.Fault fault) told = rw told refl
says_then r f answer.Memory told = tt

-- a slice of a whole list is put back
pub put_back : {X : Type 0} (new items : List X) (len : ℕ) → length new ≡ length items → len ≡ length items
    → take len (new ++ drop (length new) items) ≡ new
put_back new items len same all =
    ap (λ n. take n (new ++ drop (length new) items)) (all ∙ sym same) ∙ take-append_seam new (drop (length new) items)
