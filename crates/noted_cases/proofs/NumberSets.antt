-- The numbers that two octal digits allow, each known or not.
use Rattle.std.proofs.Common.{◌≡◌, ℕ, zero, suc, ◌+◌, ◌*◌, ◌/◌, ◌%◌, ◌<◌, ◌≤◌, Bool, true, false, ◌&&◌, cond, List, [], ◌∷◌, ◌++◌, length}
use Rattle.std.proofs.Common.{refl, ap, sym, ◌∙◌, subst, inl, inr, arith}
use Rattle.std.specs.Prelude.{Option, Some, None, filter, ◌==◌}
use Rattle.std.specs.List.{All, range_with_len}
use Rattle.std.proofs.lemmas.Bool.{eqb-false, eq-eqb, eqb-true}
use Rattle.std.proofs.lemmas.List.{map-id, append-nil}
use Rattle.std.proofs.lemmas.List.Elements.{All-from_recursion}
use Rattle.std.proofs.lemmas.List.FromFn.{filter_of_map_range_with_len_more}
use Rattle.abs_domain.specs.Lattice.{Below}
use Rattle.abs_step.specs.RegisterWrites.{Target, digit_allows, target_allows}
use Rattle.abs_step.proofs.Knowing.{both_of}
use Rattle.abs_step.proofs.Members.{IsIn, all_of, any_in}
use Rattle.abs_step.proofs.Scratchpads.{TargetBelow, allows_below}
use Rattle.value_sets.specs.ValueSets.{is_among, are_among, only}
use Rattle.noted_cases.specs.NotedEntries.{numbers_by}

-- ---- lists of numbers

-- a number that is in the list is among its numbers
pub among_in : (numbers : List ℕ) (x : ℕ) → IsIn x numbers → is_among numbers x ≡ true
among_in numbers x is = any_in (λ y. y == x) numbers x is (eq-eqb x x refl)

pub all_among : (upper lower : List ℕ) → ((x : ℕ) → IsIn x lower → is_among upper x ≡ true) → are_among upper lower ≡ true
all_among upper [] each = refl
all_among upper (x ∷ lower) each = both_of _ _ (each x (inl refl)) (all_among upper lower (λ y later. each y (inr later)))

pub in_only : (numbers : List ℕ) (x : ℕ) → only numbers ≡ Some x → IsIn x numbers
in_only [] x is = absurd (cc)
in_only (y ∷ []) x is = inl (cc)
in_only (y ∷ z ∷ numbers) x is = absurd (cc)

-- ---- those of a range that pass a test

pub in_range : (from n x : ℕ) → IsIn x (range_with_len from n) → x < from + n
in_range from zero x is = absurd is
in_range from (suc n) x (inl here) = omega arith
in_range from (suc n) x (inr later) = let rest = in_range (from + 1) n x later in omega arith

range_in : (from n x : ℕ) → from ≤ x → x < from + n → IsIn x (range_with_len from n)
range_in from zero x low high = absurd (omega arith)
range_in from (suc n) x low high = by (from == x) refl (λ apart. range_in (from + 1) n x (omega arith) (omega arith))
  where
    by : (b : Bool) → (from == x) ≡ b → ((from ≡ x → ⊥) → IsIn x (range_with_len (from + 1) n)) → IsIn x (range_with_len from (suc n))
    by true here later = inl (eqb-true from x here)
    by false other later = inr (later (eqb-false from x other))

module _ (test : ℕ → Bool) where
  pub in_filter : (xs : List ℕ) (x : ℕ) → IsIn x (filter test xs) → IsIn x xs × (test x ≡ true)
  in_filter [] x is = absurd is
  in_filter (y ∷ ys) x is = by (test y) refl is (in_filter ys x)
    where
      by : (b : Bool) → test y ≡ b → IsIn x (cond b (y ∷ filter test ys) (filter test ys)) →
          (IsIn x (filter test ys) → IsIn x ys × (test x ≡ true)) → IsIn x (y ∷ ys) × (test x ≡ true)
      by true passes (inl here) rest = (inl here, subst (λ (z : ℕ). test z ≡ true) here passes)
      by true passes (inr later) rest = let found = rest later in (inr found.0, found.1)
      by false fails later rest = let found = rest later in (inr found.0, found.1)

  filter_in : (xs : List ℕ) (x : ℕ) → IsIn x xs → test x ≡ true → IsIn x (filter test xs)
  filter_in [] x is passes = absurd is
  filter_in (y ∷ ys) x is passes = by (test y) refl is (λ later. filter_in ys x later passes)
    where
      by : (b : Bool) → test y ≡ b → IsIn x (y ∷ ys) → (IsIn x ys → IsIn x (filter test ys)) →
          IsIn x (cond b (y ∷ filter test ys) (filter test ys))
      by true own (inl here) rest = inl here
      by true own (inr later) rest = inr (rest later)
      by false own (inl here) rest = let other : test x ≡ false = subst (λ (z : ℕ). test z ≡ false) here own in absurd (cc)
      by false own (inr later) rest = rest later

  filter_shorter : (xs : List ℕ) → length (filter test xs) ≤ length xs
  filter_shorter [] = omega arith
  filter_shorter (y ∷ ys) = by (test y) (filter_shorter ys)
    where
      by : (b : Bool) → length (filter test ys) ≤ length ys → length (cond b (y ∷ filter test ys) (filter test ys)) ≤ suc (length ys)
      by true rest = omega arith
      by false rest = omega arith

range_long : (from n : ℕ) → length (range_with_len from n) ≡ n
range_long from zero = refl
range_long from (suc n) = ap suc (range_long (from + 1) n)

-- ---- ISAR

-- such a number is below 64, and the digits allow it
pub number_small : (isar : Target) (x : ℕ) → IsIn x (numbers_by isar) → x < 64
number_small isar x is = in_range 0 64 x (in_filter (target_allows isar) (range_with_len 0 64) x is).0

pub number_allowed : (isar : Target) (x : ℕ) → IsIn x (numbers_by isar) → target_allows isar x ≡ true
number_allowed isar x is = (in_filter (target_allows isar) (range_with_len 0 64) x is).1

pub allowed_number : (isar : Target) (x : ℕ) → x < 64 → target_allows isar x ≡ true → IsIn x (numbers_by isar)
allowed_number isar x small allowed =
    filter_in (target_allows isar) (range_with_len 0 64) x (range_in 0 64 x (omega arith) (omega arith)) allowed

pub few_numbers : (isar : Target) → length (numbers_by isar) ≤ 64
few_numbers isar =
    let shorter = filter_shorter (target_allows isar) (range_with_len 0 64) in
    let long = range_long 0 64 in
    omega arith

-- a digit that is allowed is the one that is known, if one is
pub digit_told : (known : Option ℕ) (digit : ℕ) → digit_allows known digit ≡ true → Below (Some digit) known
digit_told None digit allowed = tt
digit_told (Some own) digit allowed = ap Some (sym (eqb-true own digit allowed))

pub told_digit : (known : Option ℕ) (digit : ℕ) → Below (Some digit) known → digit_allows known digit ≡ true
told_digit None digit told = refl
told_digit (Some own) digit told = eq-eqb own digit (cc)

-- what says less allows no fewer
pub numbers_within : (lower upper : Target) → TargetBelow lower upper → are_among (numbers_by upper) (numbers_by lower) ≡ true
numbers_within lower upper below = all_among (numbers_by upper) (numbers_by lower) (λ x is.
    among_in (numbers_by upper) x (allowed_number upper x (number_small lower x is)
    (allows_below lower upper x below (number_allowed lower x is))))

-- the number of two digits
pub digits_number : (isar : Target) (high low : ℕ) → high < 8 → low < 8 → Below (Some high) isar.high → Below (Some low) isar.low →
    IsIn (high * 8 + low) (numbers_by isar)
digits_number isar high low high_small low_small above beside =
    let first : (high * 8 + low) / 8 ≡ high = omega arith in
    let second : (high * 8 + low) % 8 ≡ low = omega arith in
    let is_high : digit_allows isar.high ((high * 8 + low) / 8) ≡ true = rw first (told_digit isar.high high above) in
    let is_low : digit_allows isar.low ((high * 8 + low) % 8) ≡ true = rw second (told_digit isar.low low beside) in
    allowed_number isar (high * 8 + low) (omega arith) (both_of _ _ is_high is_low)

-- ---- the loop that makes them

pub passed_more : (test : ℕ → Bool) (n : ℕ) →
    filter test (range_with_len 0 (n + 1)) ≡ filter test (range_with_len 0 n) ++ cond (test n) (n ∷ []) []
passed_more test n =
    ap (filter test) (sym (map-id (range_with_len 0 (n + 1)))) ∙ filter_of_map_range_with_len_more test (λ (x : ℕ). x) 0 n n (omega arith)
    ∙ ap (λ (xs : List ℕ). filter test xs ++ cond (test n) (n ∷ []) []) (map-id (range_with_len 0 n))

pub with_one : (test : ℕ → Bool) (n : ℕ) (before after : List ℕ) → before ≡ filter test (range_with_len 0 n) → after ≡ before ++ n ∷ [] →
    test n ≡ true → after ≡ filter test (range_with_len 0 (n + 1))
with_one test n before after counted pushed passes =
    pushed ∙ ap (λ (xs : List ℕ). xs ++ n ∷ []) counted ∙ sym (passed_more test n ∙ rw passes refl)

pub with_none : (test : ℕ → Bool) (n : ℕ) (before : List ℕ) → before ≡ filter test (range_with_len 0 n) → test n ≡ false →
    before ≡ filter test (range_with_len 0 (n + 1))
with_none test n before counted fails = counted ∙ sym (passed_more test n ∙ rw fails (append-nil (filter test (range_with_len 0 n))))

pub few_passed : (test : ℕ → Bool) (n : ℕ) → length (filter test (range_with_len 0 n)) ≤ n
few_passed test n =
    let shorter = filter_shorter test (range_with_len 0 n) in
    let long = range_long 0 n in
    omega arith

pub all_small : (isar : Target) → All (λ number. number < 64) (numbers_by isar)
all_small isar = All-from_recursion (λ number. number < 64) (numbers_by isar) (all_of _ (numbers_by isar) (number_small isar))

pub few_so_far : (test : ℕ → Bool) (n : ℕ) (items : List ℕ) → items ≡ filter test (range_with_len 0 n) → length items ≤ n
few_so_far test n items counted = rw counted (few_passed test n)

pub all_passed : (test : ℕ → Bool) (n : ℕ) (items : List ℕ) → items ≡ filter test (range_with_len 0 n) → n ≤ 64 → 64 ≤ n →
    items ≡ filter test (range_with_len 0 64)
all_passed test n items counted most least =
    let whole : n ≡ 64 = omega arith in
    counted ∙ ap (λ (k : ℕ). filter test (range_with_len 0 k)) whole

pub passed_small : (isar : Target) (items : List ℕ) → items ≡ numbers_by isar → All (λ number. number < 64) items
passed_small isar items are = subst (All (λ number. number < 64)) (sym are) (all_small isar)

-- a digit isn't allowed
pub first_fails : (a b : Bool) → a ≡ false → (a && b) ≡ false
first_fails a b fails = rw fails refl

pub second_fails : (a b : Bool) → b ≡ false → (a && b) ≡ false
second_fails true b fails = fails
second_fails false b fails = refl
