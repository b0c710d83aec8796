-- A list with one number more, by what was got at the place where the number belongs.
use Rattle.std.proofs.Common.{◌≡◌, ◌==◌, ◌<◌, ◌≤◌, ℕ, zero, suc, true, false, nat_lt, List, [], ◌∷◌, length, take}
use Rattle.std.proofs.Common.{refl, sym, subst, ◌∙◌, arith, Bor, get_or}
use Rattle.std.proofs.lemmas.Bool.{ltb-true}
use Rattle.std.proofs.lemmas.Grind.{get_or_default_zero}
use Rattle.std.specs.Prelude.{Option, Some, None, IfSome, is_some, slice_index}
use Rattle.std.specs.List.{All, insert}
use Rattle.std.specs.Option.{option_eq}
use Rattle.value_sets.specs.ValueSets.{with_number}

-- all before a place is smaller than a number
abbrev IsAfterSmaller : List ℕ → ℕ → ℕ → Type 0
IsAfterSmaller numbers x place = All (λ own. own < x) (take place numbers)

-- a place has a number
abbrev IsAt : List ℕ → ℕ → ℕ → Type 0
IsAt numbers x place = (place < length numbers) × (slice_index numbers place ≡ x)

after_rest : (y : ℕ) (ys : List ℕ) (x place : ℕ) → IsAfterSmaller (y ∷ ys) x (suc place) → (y < x) × IsAfterSmaller ys x place
after_rest y ys x place smaller = (smaller 0 0 (omega arith), λ k d within. smaller (suc k) d (omega arith))

numbers_equal : (x y : ℕ) → (x == y) ≡ true → x ≡ y
numbers_equal x y same = grind arith

strictly : (x y : ℕ) → x ≤ y → (y ≡ x → ⊥) → x < y
strictly x y most other = grind arith

-- what was got at a place is a number
found : (numbers : List ℕ) (place : ℕ) (got : Option (Bor ℕ)) (number : Bor ℕ) → is_some got ≡ nat_lt place (length numbers) →
    IfSome got (λ own. own.now ≡ get_or numbers place own.now) →
    option_eq (λ own other. own.now == other.now) got (Some number) ≡ true → IsAt numbers number.now place
found numbers place None number there told same = absurd (cc)
found numbers place (Some own) number there told same =
    let within : place < length numbers = ltb-true place (length numbers) (sym there) in
    let equal : own.now ≡ number.now = numbers_equal own.now number.now same in
    (within, sym (get_or_default_zero numbers place own.now within) ∙ sym told ∙ equal)

-- what was got at a place isn't a number
not_found : (numbers : List ℕ) (place : ℕ) (got : Option (Bor ℕ)) (number : Bor ℕ) → is_some got ≡ nat_lt place (length numbers) →
    IfSome got (λ own. own.now ≡ get_or numbers place own.now) →
    option_eq (λ own other. own.now == other.now) got (Some number) ≡ false → place < length numbers →
    slice_index numbers place ≡ number.now → ⊥
not_found numbers place None number there told same within equal = grind arith
not_found numbers place (Some own) number there told same within equal =
    let own_is : own.now ≡ number.now = told ∙ get_or_default_zero numbers place own.now within ∙ equal in
    grind arith

-- a number that is there already adds nothing
stays : (numbers : List ℕ) (x place : ℕ) → IsAfterSmaller numbers x place → IsAt numbers x place → with_number numbers x ≡ numbers
stays [] x place smaller there = absurd (omega arith)
stays (y ∷ ys) x zero smaller there = grind arith
stays (y ∷ ys) x (suc place) smaller there =
    let rest = after_rest y ys x place smaller in
    let later = stays ys x place rest.1 (omega arith, there.1) in
    grind arith

-- another one goes in at its place
goes_in : (numbers : List ℕ) (x place : ℕ) → place ≤ length numbers → IsAfterSmaller numbers x place →
    (place < length numbers → x < slice_index numbers place) → with_number numbers x ≡ insert numbers place x
goes_in [] x zero within smaller larger = refl
goes_in [] x (suc place) within smaller larger = absurd (omega arith)
goes_in (y ∷ ys) x zero within smaller larger =
    let above = larger (omega arith) in
    grind arith
goes_in (y ∷ ys) x (suc place) within smaller larger =
    let rest = after_rest y ys x place smaller in
    let later = goes_in ys x place (omega arith) rest.1 (λ inside. larger (omega arith)) in
    grind arith

-- ---- what is got at the place decides

module _ (seen numbers : List ℕ) (same : seen ≡ numbers) (place : ℕ) (got : Option (Bor ℕ)) (number : Bor ℕ)
    (there : is_some got ≡ nat_lt place (length seen)) (told : IfSome got (λ own. own.now ≡ get_or seen place own.now))
    (smaller : IsAfterSmaller seen number.now place) where
  pub unchanged : option_eq (λ own other. own.now == other.now) got (Some number) ≡ true → with_number numbers number.now ≡ numbers
  unchanged equal =
      subst (λ list. with_number list number.now ≡ list) same
      (stays seen number.now place smaller (found seen place got number there told equal))

  pub inserted : option_eq (λ own other. own.now == other.now) got (Some number) ≡ false → place ≤ length seen →
      (place < length seen → number.now ≤ slice_index seen place) → with_number numbers number.now ≡ insert numbers place number.now
  inserted unlike within larger =
      let other = not_found seen place got number there told unlike in
      subst (λ list. with_number list number.now ≡ insert list place number.now) same
      (goes_in seen number.now place within smaller (λ inside. strictly number.now (slice_index seen place) (larger inside) (other inside)))
