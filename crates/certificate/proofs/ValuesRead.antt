-- The bytes of tracked registers are read into a list, and the places of a point behind it stay unset.
use Rattle.std.proofs.Common.{◌≡◌, ℕ, suc, ◌-◌, List, [], ◌∷◌, ◌++◌, length, take, drop, refl, arith}
use Rattle.std.specs.Prelude.{Option, Some, None, option_and_then, codes}
use Rattle.std.proofs.Math.ListN.{set}
use Rattle.std.proofs.lemmas.List.{append-nil, take_all, drop_all}
use denote.Ref.{Bor}
use Rattle.certificate.specs.Answers.{Gives}
use Rattle.certificate.specs.Parts.{known_byte_at, bytes_at, values_at}
use Rattle.certificate.proofs.BytesRead.{with_front}

first_value : (n : ℕ) (text rest : List ℕ) (first : Option ℕ) → known_byte_at text ≡ Some (first, rest) →
    values_at (suc n) text ≡ with_front (first ∷ []) (bytes_at (codes ",") n rest)
unfolding values_at
first_value n text rest first known = rw known (by (bytes_at (codes ",") n rest))
  where
    by : (o : Option (List (Option ℕ) × List ℕ)) →
        option_and_then (λ others. Some (first ∷ others.0, others.1)) o ≡ with_front (first ∷ []) o
    by None = refl
    by (Some x) = refl

gives_front : (first : Option ℕ) (others : List (Option ℕ)) (r : Option (Bor (List ℕ))) (said : Option (List (Option ℕ) × List ℕ)) →
    Gives (λ (x : Bor (List ℕ)). (others, x.now)) r said → Gives (λ (x : Bor (List ℕ)). (first ∷ others, x.now)) r (with_front (first ∷ []) said)
gives_front first others None said told = rw told refl
gives_front first others (Some x) said told = rw told refl

-- the places behind the first one, as the code names them
abbrev pub later_places : List (Option ℕ) → List (Option ℕ)
later_places values = take (length values - 1) (drop 1 values)

later_count : (v : Option ℕ) (vs : List (Option ℕ)) → length (later_places (v ∷ vs)) ≡ length vs
later_count v vs =
    let all : suc (length vs) - 1 ≡ length vs = omega arith in
    rw (all, take_all (length vs) vs (omega arith)) refl

none_later : (v : Option ℕ) (vs others : List (Option ℕ)) → others ++ drop (length (v ∷ vs) - 1) (drop 1 (v ∷ vs)) ≡ others
none_later v vs others =
    let all : suc (length vs) - 1 ≡ length vs = omega arith in
    rw (all, drop_all (length vs) vs (omega arith), append-nil others) refl

-- what the code tells that reads the first value by itself
pub told_values : (values others : List (Option ℕ)) (first : Option ℕ) (text rest : List ℕ) (r : Option (Bor (List ℕ))) →
    (length values ≡ 0 → ⊥) → known_byte_at text ≡ Some (first, rest) →
    Gives (λ (x : Bor (List ℕ)). (others, x.now)) r (bytes_at (codes ",") (length (later_places (set values 0 first))) rest) →
    Gives (λ (x : Bor (List ℕ)). (take 1 (set values 0 first) ++ (others ++ drop (length (set values 0 first) - 1) (drop 1 (set values 0 first))), x.now)) r
    (values_at (length values) text)
told_values [] others first text rest r some known told = absurd (some refl)
told_values (v ∷ vs) others first text rest r some known told =
    let counted = rw (later_count first vs) at told in
    rw (first_value (length vs) text rest first known, none_later first vs others)
    (gives_front first others r (bytes_at (codes ",") (length vs) rest) counted)
