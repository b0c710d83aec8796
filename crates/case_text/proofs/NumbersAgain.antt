-- The numbers of a word that is written are read as they were: bytes, words and the numbers of registers.
use Rattle.std.proofs.Common.{◌≡◌, ℕ, ◌+◌, ◌*◌, ◌/◌, ◌%◌, ◌<◌, true, false, ◌==◌, List, [], ◌∷◌, ◌++◌, length, refl, ap, arith}
use Rattle.std.specs.Prelude.{Some, Ok, flat_map}
use Rattle.std.specs.List.{AllByRecursion}
use Rattle.std.specs.Result.{result_ok}
use Rattle.std.proofs.lemmas.Bool.Decides.{nat_tests}
use Rattle.hex.specs.Hex.{hex_digit_value, decode_pairs, decode_sized}
use Rattle.f8_spec.specs.Spelling.{hex_digit, hex2, hex4, octal2}
use Rattle.line_words.specs.Numbers.{address_of}
use Rattle.case_text.specs.EntryWords.{bytes_of, in_pairs, octal_of, octals_of}

-- each number is below a limit
abbrev pub AllBelow : ℕ → List ℕ → Type 0
AllBelow limit numbers = AllByRecursion (λ number. number < limit) numbers

-- ---- bytes

digit_again : (d : ℕ) → d < 16 → hex_digit_value (hex_digit d) ≡ Some d
digit_again d small = grind (arith, nat_tests)

pairs_again : (i : ℕ) (bytes : List ℕ) → AllBelow 256 bytes → decode_pairs i (flat_map hex2 bytes) ≡ Ok bytes
unfolding decode_pairs
pairs_again i [] small = refl
pairs_again i (b ∷ bytes) small =
    let fits : b < 256 = small.0 in
    let high : b / 16 < 16 = omega arith in
    let low : b % 16 < 16 = omega arith in
    let whole : b / 16 * 16 + b % 16 ≡ b = omega arith in
    rw (digit_again (b / 16) high, digit_again (b % 16) low, pairs_again (i + 2) bytes small.1, whole) refl

-- two digits a byte
digits_of : (bytes : List ℕ) → length (flat_map hex2 bytes) ≡ 2 * length bytes
digits_of [] = refl
digits_of (b ∷ bytes) = let size = digits_of bytes in omega (arith, size)

sized_again : (bytes : List ℕ) (n : ℕ) → AllBelow 256 bytes → length bytes ≡ n →
    result_ok (decode_sized (flat_map hex2 bytes) n) ≡ Some bytes
sized_again bytes n small sized =
    let size = digits_of bytes in
    let even : (length (flat_map hex2 bytes) % 2 == 1) ≡ false = grind (arith, nat_tests, size) in
    let half : length (flat_map hex2 bytes) / 2 ≡ n = omega (arith, size, sized) in
    let same : (length (flat_map hex2 bytes) / 2 == n) ≡ true = rw half (grind (arith, nat_tests)) in
    rw (even, same, pairs_again 0 bytes small) refl

pub bytes_again : (bytes : List ℕ) → AllBelow 256 bytes → bytes_of (flat_map hex2 bytes) ≡ Some bytes
bytes_again bytes small = let size = digits_of bytes in sized_again bytes (length (flat_map hex2 bytes) / 2) small (omega (arith, size))

-- ---- words

-- the high byte of each first
abbrev pub halves : List ℕ → List ℕ
halves [] = []
halves (w ∷ words) = w / 256 ∷ w % 256 ∷ halves words

halves_text : (words : List ℕ) → flat_map hex4 words ≡ flat_map hex2 (halves words)
halves_text [] = refl
halves_text (w ∷ words) = ap (λ (rest : List ℕ). hex2 (w / 256) ++ (hex2 (w % 256) ++ rest)) (halves_text words)

halves_below : (words : List ℕ) → AllBelow 65536 words → AllBelow 256 (halves words)
halves_below [] small = tt
halves_below (w ∷ words) small =
    let fits : w < 65536 = small.0 in
    (omega arith, (omega arith, halves_below words small.1))

joined_again : (words : List ℕ) → in_pairs (halves words) ≡ Some words
joined_again [] = refl
joined_again (w ∷ words) = let whole : w / 256 * 256 + w % 256 ≡ w = omega arith in rw (joined_again words, whole) refl

pub word_bytes_again : (words : List ℕ) → AllBelow 65536 words → bytes_of (flat_map hex4 words) ≡ Some (halves words)
word_bytes_again words small = rw (halves_text words) (bytes_again (halves words) (halves_below words small))

pub words_again : (words : List ℕ) → in_pairs (halves words) ≡ Some words
words_again = joined_again

pub address_again : (at : ℕ) → at < 65536 → address_of (hex4 at) ≡ Some at
address_again at small =
    let bytes : List ℕ = halves (at ∷ []) in
    let whole : at / 256 * 256 + at % 256 ≡ at = omega arith in
    rw (sized_again bytes 2 (halves_below (at ∷ []) (small, tt)) refl, whole) refl

-- ---- the numbers of registers

octal_again : (d : ℕ) → d < 8 → octal_of (48 + d) ≡ Some d
octal_again d small = grind (arith, nat_tests)

pub octals_again : (numbers : List ℕ) → AllBelow 64 numbers → octals_of (flat_map octal2 numbers) ≡ Some numbers
octals_again [] small = refl
octals_again (n ∷ numbers) small =
    let fits : n < 64 = small.0 in
    let high : n / 8 < 8 = omega arith in
    let low : n % 8 < 8 = omega arith in
    let whole : n / 8 * 8 + n % 8 ≡ n = omega arith in
    rw (octal_again (n / 8) high, octal_again (n % 8) low, octals_again numbers small.1, whole) refl
