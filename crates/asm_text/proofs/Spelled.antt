-- Names and numbers as a listing writes them are read again, whatever follows that doesn't go on with them.
use Rattle.std.proofs.Common.{◌≡◌, ℕ, ◌+◌, ◌/◌, ◌%◌, ◌^◌, ◌<◌, ◌≤◌, Bool, true, List, [], ◌∷◌, ◌++◌, length, take, refl, ◌∙◌, ap, arith}
use Rattle.std.proofs.Common.{lit<, Some, None}
use Rattle.std.specs.List.{list_all, prefix_len}
use Rattle.std.specs.Char.{digit_value, is_digit}
use Rattle.std.proofs.Math.Seq.{take-append_seam}
use Rattle.std.proofs.lemmas.Bool.Decides.{nat_tests}
use Rattle.std.proofs.lemmas.Grind.{common_steps}
use Rattle.asm_text.specs.Bytes.{is_name_byte, is_name, value, narrow, stops}
use Rattle.asm_text.specs.Lexemes.{name_of, name_lexeme, digits_lexeme, number_lexeme}
use Rattle.f8_spec.specs.Spelling.{hex_digit, hex2, hex4}
use Rattle.asm_text.specs.declared.front.Lexeme.TheVariants.{Wide, Lexed}
use Rattle.asm_text.specs.declared.answers.TokenKind.TheVariants as kind

-- a run of a class ends where what follows isn't of it
pub run_stops : (p : ℕ → Bool) (xs rest : List ℕ) → list_all p xs ≡ true → stops p rest ≡ true → prefix_len p (xs ++ rest) ≡ length xs
run_stops p [] [] all stop = refl
run_stops p [] (r ∷ rest) all stop = grind (arith, common_steps, nat_tests)
run_stops p (x ∷ xs) rest all stop =
    let others : list_all p xs ≡ true = grind (arith, common_steps) in
    grind (arith, common_steps, nat_tests, run_stops p xs rest others stop)

-- 32 bits hold a number below 2 ^ 32
narrow_holds : (n : ℕ) → n < 2 ^ 32 → narrow n ≡ Some n
unfolding narrow
narrow_holds n fits = grind (arith, nat_tests)

-- some digits whose number 32 bits hold
number_of_digits : (base before n : ℕ) (bytes : List ℕ) (k : ℕ) → 0 < k → narrow (value base (take k bytes)) ≡ Some n →
    digits_lexeme base before bytes k ≡ Lexed (kind.Number n) (before + k)
unfolding digits_lexeme
number_of_digits base before n bytes k some held = rw held (grind (arith, nat_tests))

-- digits that spell a number of 32 bits are read as it
pub number_read : (base before n : ℕ) (digits rest : List ℕ) → 0 < length digits →
    list_all (λ b. is_digit b base) digits ≡ true → value base digits ≡ n → n < 2 ^ 32 →
    stops (λ b. is_digit b base) rest ≡ true →
    number_lexeme base before (digits ++ rest) ≡ Lexed (kind.Number n) (before + length digits)
unfolding number_lexeme
number_read base before n digits rest some all spelled fits stop =
    let run = run_stops (λ b. is_digit b base) digits rest all stop in
    let held : narrow (value base (take (length digits) (digits ++ rest))) ≡ Some n = rw (take-append_seam digits rest, spelled) (narrow_holds n fits) in
    ap (digits_lexeme base before (digits ++ rest)) run ∙ number_of_digits base before n (digits ++ rest) (length digits) some held

-- some digits whose number 32 bits don't hold
number_of_wide : (base before : ℕ) (bytes : List ℕ) (k : ℕ) → 0 < k → narrow (value base (take k bytes)) ≡ None → digits_lexeme base before bytes k ≡ Wide
unfolding digits_lexeme
number_of_wide base before bytes k some wide = rw wide (grind (arith, nat_tests))

-- 32 bits hold no number from 2 ^ 32 on
narrow_wide : (n : ℕ) → 2 ^ 32 ≤ n → narrow n ≡ None
unfolding narrow
narrow_wide n wide = grind (arith, nat_tests)

-- digits that spell a wider number are read as too wide
pub wide_read : (base before : ℕ) (digits rest : List ℕ) → 0 < length digits →
    list_all (λ b. is_digit b base) digits ≡ true → 2 ^ 32 ≤ value base digits →
    stops (λ b. is_digit b base) rest ≡ true → number_lexeme base before (digits ++ rest) ≡ Wide
unfolding number_lexeme
wide_read base before digits rest some all wide stop =
    let run = run_stops (λ b. is_digit b base) digits rest all stop in
    let none : narrow (value base (take (length digits) (digits ++ rest))) ≡ None = rw (take-append_seam digits rest) (narrow_wide (value base digits) wide) in
    ap (digits_lexeme base before (digits ++ rest)) run ∙ number_of_wide base before (digits ++ rest) (length digits) some none

-- bytes that aren't too many for a name
name_of_bytes : (bytes : List ℕ) (k : ℕ) → k ≤ 32 → name_of bytes k ≡ Lexed (kind.Name (take k bytes)) k
unfolding name_of
name_of_bytes bytes k short = grind (arith, nat_tests)

-- a name has bytes of names alone, and at most 32
name_bytes : (name : List ℕ) → is_name name ≡ true → list_all is_name_byte name ≡ true
name_bytes [] named = refl
name_bytes (b ∷ bs) named = grind (arith, common_steps, nat_tests)

name_short : (name : List ℕ) → is_name name ≡ true → length name ≤ 32
name_short [] named = omega arith
name_short (b ∷ bs) named = grind (arith, common_steps, nat_tests)

-- a name is read as it stands
pub name_read : (name rest : List ℕ) → is_name name ≡ true → stops is_name_byte rest ≡ true → name_lexeme (name ++ rest) ≡ Lexed (kind.Name name) (length name)
unfolding name_lexeme
name_read name rest named stop =
    let run = run_stops is_name_byte name rest (name_bytes name named) stop in
    ap (name_of (name ++ rest)) run ∙ name_of_bytes (name ++ rest) (length name) (name_short name named)
    ∙ ap (λ s. Lexed (kind.Name s) (length name)) (take-append_seam name rest)

-- a hex digit is a digit of base 16, and has its value
digit_again : (d : ℕ) → d < 16 → digit_value (hex_digit d) ≡ d
digit_again d small = grind (arith, nat_tests)

-- two hex digits spell their byte
pub hex2_value : (b : ℕ) → b < 256 → value 16 (hex2 b) ≡ b
unfolding value
hex2_value b small = omega (arith, digit_again (b / 16) (omega arith), digit_again (b % 16) (omega arith))

-- four hex digits spell their word
pub hex4_value : (w : ℕ) → w < 65536 → value 16 (hex4 w) ≡ w
unfolding value
hex4_value w small =
    omega (
      arith,
      digit_again (w / 256 / 16) (omega arith),
      digit_again (w / 256 % 16) (omega arith),
      digit_again (w % 256 / 16) (omega arith),
      digit_again (w % 256 % 16) (omega arith),
    )

-- hex digits are digits of base 16
hex_digit_is : (d : ℕ) → d < 16 → is_digit (hex_digit d) 16 ≡ true
hex_digit_is d small = grind (arith, nat_tests, digit_again d small)

-- a byte in two hex digits is read again
pub hex2_read : (b : ℕ) (rest : List ℕ) → b < 256 → stops (λ c. is_digit c 16) rest ≡ true → number_lexeme 16 1 (hex2 b ++ rest) ≡ Lexed (kind.Number b) 3
hex2_read b rest small stop =
    let all : list_all (λ c. is_digit c 16) (hex2 b) ≡ true = rw (hex_digit_is (b / 16) (omega arith), hex_digit_is (b % 16) (omega arith)) refl in
    number_read 16 1 b (hex2 b) rest (lit< tt) all (hex2_value b small) (omega arith) stop

-- a word in four hex digits is read again
pub hex4_read : (w : ℕ) (rest : List ℕ) → w < 65536 → stops (λ c. is_digit c 16) rest ≡ true → number_lexeme 16 1 (hex4 w ++ rest) ≡ Lexed (kind.Number w) 5
hex4_read w rest small stop =
    let all : list_all (λ c. is_digit c 16) (hex4 w) ≡ true =
    rw (
      hex_digit_is (w / 256 / 16) (omega arith),
      hex_digit_is (w / 256 % 16) (omega arith),
      hex_digit_is (w % 256 / 16) (omega arith),
      hex_digit_is (w % 256 % 16) (omega arith),
    ) refl in
    number_read 16 1 w (hex4 w) rest (lit< tt) all (hex4_value w small) (omega arith) stop
