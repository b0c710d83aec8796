-- Words of a wrong length, and the number of a list of one.
use Rattle.std.proofs.Common.{◌≡◌, ℕ, ◌<◌, Bool, List, [], ◌∷◌, length, Option, Some, None, refl, arith}
use Rattle.std.specs.Prelude.{option_and_then, option_map}
use Rattle.std.specs.List.{All}
use Rattle.value_sets.specs.ValueSets.{only}
use Rattle.case_text.specs.EntryWords.{each_of, fact_of, facts_by, facts_of, flag_of, status_by, status_of}

module _ {A : Type 0} (read : ℕ → Option A) where
  one_longer : (c : ℕ) (word : List ℕ) (first : Option A) (others : Option (List A)) → ((xs : List A) → others ≡ Some xs → length xs ≡ length word) →
      (xs : List A) → option_and_then (λ first. option_map (λ others. first ∷ others) others) first ≡ Some xs → length xs ≡ length (c ∷ word)
  one_longer c word None others each xs is = absurd cc
  one_longer c word (Some first) None each xs is = absurd cc
  one_longer c word (Some first) (Some rest) each xs is =
      let all : first ∷ rest ≡ xs = cc in
      let size = each rest refl in
      rw (← all) (omega (arith, size))

  -- as many as bytes
  length_each : (word : List ℕ) (xs : List A) → each_of read word ≡ Some xs → length xs ≡ length word
  length_each [] xs is = let none : [] ≡ xs = cc in rw (← none) refl
  length_each (c ∷ word) xs is = one_longer c word (read c) (each_of read word) (length_each word) xs is

no_status : (flags : List (Option Bool)) → (length flags ≡ 5 → ⊥) → status_by flags ≡ None
no_status [] other = refl
no_status (a ∷ []) other = refl
no_status (a ∷ b ∷ []) other = refl
no_status (a ∷ b ∷ c ∷ []) other = refl
no_status (a ∷ b ∷ c ∷ d ∷ []) other = refl
no_status (a ∷ b ∷ c ∷ d ∷ e ∷ []) other = absurd (other refl)
no_status (a ∷ b ∷ c ∷ d ∷ e ∷ f ∷ flags) other = refl

-- no status has other than five flags
pub no_status_of : (word : List ℕ) → (length word ≡ 5 → ⊥) → status_of word ≡ None
no_status_of word other = by (each_of flag_of word) (length_each flag_of word)
  where
    by : (o : Option (List (Option Bool))) → ((xs : List (Option Bool)) → o ≡ Some xs → length xs ≡ length word) → option_and_then status_by o ≡ None
    by None size = refl
    by (Some flags) size = let same = size flags refl in no_status flags (λ five. other (omega (arith, same, five)))

no_facts : (facts : List Bool) → (length facts ≡ 4 → ⊥) → facts_by facts ≡ None
no_facts [] other = refl
no_facts (a ∷ []) other = refl
no_facts (a ∷ b ∷ []) other = refl
no_facts (a ∷ b ∷ c ∷ []) other = refl
no_facts (a ∷ b ∷ c ∷ d ∷ []) other = absurd (other refl)
no_facts (a ∷ b ∷ c ∷ d ∷ e ∷ facts) other = refl

-- no facts are other than four
pub no_facts_of : (word : List ℕ) → (length word ≡ 4 → ⊥) → facts_of word ≡ None
no_facts_of word other = by (each_of fact_of word) (length_each fact_of word)
  where
    by : (o : Option (List Bool)) → ((xs : List Bool) → o ≡ Some xs → length xs ≡ length word) → option_and_then facts_by o ≡ None
    by None size = refl
    by (Some facts) size = let same = size facts refl in no_facts facts (λ four. other (omega (arith, same, four)))

-- the number of a list of one is one of its numbers
pub only_small : (most : ℕ) (numbers : List ℕ) (number : ℕ) → All (λ number. number < most) numbers → Some number ≡ only numbers → number < most
only_small most [] number small is = absurd cc
only_small most (x ∷ []) number small is = let one : number ≡ x = cc in rw one (small 0 0 (omega arith))
only_small most (x ∷ y ∷ numbers) number small is = absurd cc
