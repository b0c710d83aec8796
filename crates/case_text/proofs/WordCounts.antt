-- Lists that are too long, and how many words bytes make.
use Rattle.std.proofs.Common.{◌≡◌, ℕ, ◌+◌, ◌*◌, ◌<◌, ◌≤◌, true, List, [], ◌∷◌, length, Option, Some, None, refl, arith}
use Rattle.std.specs.Prelude.{IfSome, nat_le, ◌&&◌, option_and_then, option_map}
use Rattle.std.proofs.lemmas.Bool.Decides.{nat_tests}
use Rattle.case_text.specs.EntryWords.{in_pairs, is_ascending, listed}

-- ---- lists

too_long : (most : ℕ) (numbers : List ℕ) → most < length numbers → listed most numbers ≡ None
too_long most numbers more = grind (arith, nat_tests)

-- too many numbers are no list
pub none_listed : (most : ℕ) (read : Option (List ℕ)) → IfSome read (λ numbers. most < length numbers) →
    option_and_then (listed most) read ≡ None
none_listed most None more = refl
none_listed most (Some numbers) more = too_long most numbers more

-- few enough are one
is_listed : (most : ℕ) (numbers : List ℕ) → length numbers ≤ most → (nat_le 1 (length numbers) && is_ascending numbers) ≡ true →
    listed most numbers ≡ Some numbers
is_listed most numbers few ordered = grind (arith, nat_tests)

-- ---- words

more_words : (bytes : List ℕ) (word : ℕ) (read : Option (List ℕ)) → ((rest : List ℕ) → read ≡ Some rest → length bytes ≡ 2 * length rest) →
    (words : List ℕ) → option_map (λ words. word ∷ words) read ≡ Some words → length bytes + 2 ≡ 2 * length words
more_words bytes word None each words is = absurd cc
more_words bytes word (Some rest) each words is =
    let all : word ∷ rest ≡ words = cc in
    let size = each rest refl in
    rw (← all) (omega (arith, size))

-- two bytes a word
length_words : (bytes words : List ℕ) → in_pairs bytes ≡ Some words → length bytes ≡ 2 * length words
length_words [] words is = let none : [] ≡ words = cc in rw (← none) refl
length_words (high ∷ []) words is = absurd cc
length_words (high ∷ low ∷ bytes) words is =
    let size = more_words bytes (high * 256 + low) (in_pairs bytes) (length_words bytes) words is in
    omega (arith, size)

-- bytes that don't fit make more words than fit
pub no_words : (read : Option (List ℕ)) → IfSome read (λ bytes. 1024 < length bytes) →
    option_and_then (listed 512) (option_and_then in_pairs read) ≡ None
no_words None more = refl
no_words (Some bytes) more = by (in_pairs bytes) (length_words bytes)
  where
    by : (o : Option (List ℕ)) → ((words : List ℕ) → o ≡ Some words → length bytes ≡ 2 * length words) → option_and_then (listed 512) o ≡ None
    by None size = refl
    by (Some words) size = let twice = size words refl in too_long 512 words (omega (arith, twice, more))

-- those that fit are a list
pub few_words : (bytes words : List ℕ) → length bytes ≤ 1024 → in_pairs bytes ≡ Some words → (nat_le 1 (length words) && is_ascending words) ≡ true →
    option_and_then (listed 512) (in_pairs bytes) ≡ Some words
few_words bytes words few is ordered =
    let size = length_words bytes words is in rw is (is_listed 512 words (omega (arith, size, few)) ordered)
