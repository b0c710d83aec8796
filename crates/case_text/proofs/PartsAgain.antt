-- A word that is written of a part of an entry is read as the part was.
use Rattle.std.proofs.Common.{◌≡◌, ℕ, ◌+◌, ◌/◌, ◌<◌, ◌≤◌, Bool, true, false, cond, ◌==◌, List, [], ◌∷◌, ◌++◌, length, map}
use Rattle.std.proofs.Common.{refl, sym, ap, ◌∙◌, arith, append-nil}
use Rattle.std.specs.Prelude.{Option, Some, None, codes, nat_le, nat_lt, ◌&&◌, flat_map, option_map}
use Rattle.std.specs.List.{AllByRecursion, range_with_len}
use Rattle.std.specs.Option.{ForSome}
use Rattle.std.proofs.lemmas.Bool.{and_parts}
use Rattle.std.proofs.lemmas.Bool.Decides.{nat_tests}
use Rattle.f8_spec.specs.Spelling.{hex_digit, octal2}
use Rattle.abs_domain.specs.AbstractState.{KnownStatus}
use Rattle.certificate.specs.Parts.{bit_text, known_bit_text, known_address_text}
use Rattle.certificate.specs.Entries.{status_text}
use Rattle.case_step.specs.Entries.{EntryView}
use Rattle.case_text.specs.EntryWords.{is_ascending, listed, most_bytes, most_words, byte_set_of, word_set_of, numbers_of}
use Rattle.case_text.specs.EntryWords.{return_of, same_of, fact_of, flag_of, each_of, status_of, facts_of, registers_of}
use Rattle.case_text.specs.WrittenCases.{byte_set_text, word_set_text, numbers_text, same_text, facts_text, AreListed, IsByteSet, IsWordSet}
use Rattle.case_text.proofs.NumbersAgain.{bytes_again, word_bytes_again, words_again, address_again, octals_again}

-- ---- dashes

hex_no_dash : (d : ℕ) → d < 16 → (hex_digit d == 45) ≡ false
hex_no_dash d small = grind (arith, nat_tests)

octal_no_dash : (d : ℕ) → ((48 + d) == 45) ≡ false
octal_no_dash d = grind (arith, nat_tests)

some_listed : {A : Type 0} (most : ℕ) → listed most [] ≡ Some [] → A
some_listed most none = absurd (cc)

-- ---- sets

pub byte_set_again : (set : Option (List ℕ)) → IsByteSet set → byte_set_of (byte_set_text set) ≡ Some set
byte_set_again None form = refl
byte_set_again (Some []) form = some_listed most_bytes (form [] refl).0
byte_set_again (Some (b ∷ bytes)) form =
    let all = form (b ∷ bytes) refl in
    let fits : b < 256 = all.1.0 in
    let high : b / 16 < 16 = omega arith in
    rw (hex_no_dash (b / 16) high, bytes_again (b ∷ bytes) all.1, all.0) refl

pub word_set_again : (set : Option (List ℕ)) → IsWordSet set → word_set_of (word_set_text set) ≡ Some set
word_set_again None form = refl
word_set_again (Some []) form = some_listed most_words (form [] refl).0
word_set_again (Some (w ∷ words)) form =
    let all = form (w ∷ words) refl in
    let fits : w < 65536 = all.1.0 in
    let high : w / 256 / 16 < 16 = omega arith in
    rw (hex_no_dash (w / 256 / 16) high, word_bytes_again (w ∷ words) all.1, words_again (w ∷ words), all.0) refl

-- ---- ISAR's numbers

module _ (P Q : ℕ → Type 0) (each : (n : ℕ) → P n → Q n) where
  all_weaker : (numbers : List ℕ) → AllByRecursion P numbers → AllByRecursion Q numbers
  all_weaker [] all = tt
  all_weaker (n ∷ numbers) all = (each n all.0, all_weaker numbers all.1)

-- the numbers behind one that is no less than another are above that one
above : (a x : ℕ) (numbers : List ℕ) → a ≤ x → is_ascending (x ∷ numbers) ≡ true → AllByRecursion (λ n. a + 1 ≤ n) numbers
above a x [] low ascends = tt
above a x (y ∷ numbers) low ascends =
    let first = (and_parts (nat_lt x y) (is_ascending (y ∷ numbers)) ascends).0 in
    let higher : a + 1 ≤ y = grind (arith, nat_tests, first) in
    (higher, above a y numbers (omega arith) (and_parts (nat_lt x y) (is_ascending (y ∷ numbers)) ascends).1)

-- as many numbers as there are from one on, in ascending order, are all of these
all_of_them : (a : ℕ) (numbers : List ℕ) → is_ascending numbers ≡ true → AllByRecursion (λ n. a ≤ n) numbers →
    AllByRecursion (λ n. n < a + length numbers) numbers → numbers ≡ range_with_len a (length numbers)
all_of_them a [] ascends least most = refl
all_of_them a (x ∷ []) ascends least most =
    let low : a ≤ x = least.0 in
    let high : x < a + 1 = most.0 in
    let same : x ≡ a = omega arith in
    ap (λ n. n ∷ []) same
all_of_them a (x ∷ y ∷ numbers) ascends least most =
    let low : a ≤ x = least.0 in
    let first = (and_parts (nat_lt x y) (is_ascending (y ∷ numbers)) ascends).0 in
    let below : x < y = grind (arith, nat_tests, first) in
    let later = (and_parts (nat_lt x y) (is_ascending (y ∷ numbers)) ascends).1 in
    let behind : y ∷ numbers ≡ range_with_len (a + 1) (length (y ∷ numbers)) =
    all_of_them (a + 1) (y ∷ numbers) later (above a x (y ∷ numbers) low ascends)
    (all_weaker (λ n. n < a + length (x ∷ y ∷ numbers)) (λ n. n < a + 1 + length (y ∷ numbers))
    (λ n high. omega (arith, high)) (y ∷ numbers) most.1) in
    let next : y ≡ a + 1 = cc in
    let same : x ≡ a = omega arith in
    rw (same, ← behind) refl

passed : {A : Type 0} (test : Bool) (x : A) → cond test (Some x) None ≡ Some x → test ≡ true
passed true x is = refl
passed false x is = absurd (cc)

all_numbers : (numbers : List ℕ) → AreListed 64 64 numbers → length numbers ≡ 64 → range_with_len 0 64 ≡ numbers
all_numbers numbers form sized =
    let short = nat_le (length numbers) 64 && is_ascending numbers in
    let test = passed (nat_le 1 (length numbers) && short) numbers form.0 in
    let ascends = (and_parts (nat_le (length numbers) 64) (is_ascending numbers) (and_parts (nat_le 1 (length numbers)) short test).1).1 in
    let least = all_weaker (λ n. n < 64) (λ n. 0 ≤ n) (λ n high. omega arith) numbers form.1 in
    let most = all_weaker (λ n. n < 64) (λ n. n < 0 + length numbers) (λ n high. omega (arith, high, sized)) numbers form.1 in
    sym (all_of_them 0 numbers ascends least most ∙ ap (range_with_len 0) sized)

some_numbers_again : (numbers : List ℕ) → AreListed 64 64 numbers → numbers_of (flat_map octal2 numbers) ≡ Some numbers
some_numbers_again [] form = some_listed 64 form.0
some_numbers_again (n ∷ numbers) form = rw (octal_no_dash (n / 8), octals_again (n ∷ numbers) form.1, form.0) refl

pub numbers_again : (numbers : List ℕ) → AreListed 64 64 numbers → numbers_of (numbers_text numbers) ≡ Some numbers
numbers_again numbers form = by (length numbers == 64) refl
  where
    by : (all : Bool) → (length numbers == 64) ≡ all → numbers_of (cond all (codes "--") (flat_map octal2 numbers)) ≡ Some numbers
    by true is = let sized : length numbers ≡ 64 = grind (arith, nat_tests, is) in ap Some (all_numbers numbers form sized)
    by false is = some_numbers_again numbers form

-- ---- the return, and the accumulator's copy

pub return_again : (at : Option ℕ) → ForSome at (λ a. a < 65536) → return_of (known_address_text at) ≡ Some at
return_again None small = refl
return_again (Some a) small =
    let fits = small a refl in
    let high : a / 256 / 16 < 16 = omega arith in
    rw (hex_no_dash (a / 256 / 16) high, address_again a fits) refl

pub same_again : (number : Option ℕ) → ForSome number (λ n. n < 64) → same_of (same_text number) ≡ Some number
same_again None small = refl
same_again (Some n) small =
    rw (octal_no_dash (n / 8), octals_again (n ∷ []) (small n refl, tt)) refl

-- ---- flags and facts

flag_again : (bit : Option Bool) (rest : List ℕ) →
    each_of flag_of (known_bit_text bit ++ rest) ≡ option_map (λ others. bit ∷ others) (each_of flag_of rest)
flag_again None rest = refl
flag_again (Some true) rest = refl
flag_again (Some false) rest = refl

fact_again : (bit : Bool) (rest : List ℕ) →
    each_of fact_of (bit_text bit ++ rest) ≡ option_map (λ others. bit ∷ others) (each_of fact_of rest)
fact_again true rest = refl
fact_again false rest = refl

pub status_again : (status : KnownStatus) → status_of (status_text status) ≡ Some status
unfolding status_text
status_again status =
    let five : List ℕ = known_bit_text status.icb ++ [] in
    let four : List ℕ = known_bit_text status.overflow ++ five in
    let three : List ℕ = known_bit_text status.zero ++ four in
    let two : List ℕ = known_bit_text status.carry ++ three in
    rw (
      ← append-nil (known_bit_text status.icb),
      flag_again status.sign two,
      flag_again status.carry three,
      flag_again status.zero four,
      flag_again status.overflow five,
      flag_again status.icb [],
    ) refl

pub facts_again : (e : EntryView) → facts_of (facts_text e) ≡ Some (record { s0 = e.s0; s1 = e.s1; p0 = e.p0; p1 = e.p1 })
facts_again e =
    let four : List ℕ = bit_text e.p1 ++ [] in
    let three : List ℕ = bit_text e.p0 ++ four in
    let two : List ℕ = bit_text e.s1 ++ three in
    rw (
      ← append-nil (bit_text e.p1),
      fact_again e.s0 two,
      fact_again e.s1 three,
      fact_again e.p0 four,
      fact_again e.p1 [],
    ) refl

-- ---- the scratchpad

pub registers_again : (sets : List (Option (List ℕ))) → AllByRecursion IsByteSet sets →
    registers_of (length sets) (map byte_set_text sets) ≡ Some (sets, [])
unfolding registers_of
registers_again [] form = refl
registers_again (set ∷ sets) form = rw (byte_set_again set form.0, registers_again sets form.1) refl
