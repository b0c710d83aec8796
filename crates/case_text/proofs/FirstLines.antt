-- The first line of what is written with it, and the number in the first one of all.
use Rattle.std.proofs.Common.{◌≡◌, ℕ, ◌+◌, ◌-◌, ◌*◌, ◌≤◌, Bool, true, false, ◌==◌, List, [], ◌∷◌, ◌++◌}
use Rattle.std.proofs.Common.{length, refl, ap, ◌∙◌, arith, append_assoc, length-append}
use Rattle.std.specs.Prelude.{Some, Ok, codes, decimal, nat_le, nat_lt, not}
use Rattle.std.specs.List.{list_all, prefix_len}
use Rattle.std.specs.Char.{digit_value, is_ascii_digit}
use Rattle.std.specs.Str.Parse.{AllDigits, digits_value_after}
use Rattle.std.proofs.Math.Seq.{take-append_seam, drop-append-add}
use Rattle.std.proofs.lemmas.Bool.{and_parts}
use Rattle.std.proofs.lemmas.Bool.Decides.{nat_tests}
use Rattle.std.proofs.lemmas.Str.{digit_value_digit}
use Rattle.std.proofs.lemmas.Str.Parse.{digit_from_value}
use Rattle.std.proofs.lemmas.Fmt.{decimal_is_IsNumeral, length-decimal-le}
use Rattle.std.proofs.lemmas.List.Folds.{list_all-append}
use Rattle.line_words.specs.Numbers.{decimal_on}
use Rattle.certificate.specs.Parts.{behind}
use Rattle.certificate.specs.CertificateText.{first_line, line_text}
use Rattle.case_text.specs.CasesText.{count_of}

-- ---- lines

abbrev pub is_inside : ℕ → Bool
is_inside c = not (c == 10)

stops : (line rest : List ℕ) → list_all is_inside line ≡ true → prefix_len is_inside (line ++ (10 ∷ rest)) ≡ length line
stops [] rest none = refl
stops (c ∷ line) rest none =
    let parts = and_parts (is_inside c) (list_all is_inside line) none in
    rw (parts.0, stops line rest parts.1) (omega arith)

-- a line without a line feed in it is the first one of what is written with it
pub first_again : (line rest : List ℕ) → list_all is_inside line ≡ true → first_line (line_text line ++ rest) ≡ Some (line, rest)
unfolding first_line
first_again line rest none =
    let text : List ℕ = line ++ (10 ∷ rest) in
    let regroup : line_text line ++ rest ≡ text = append_assoc line (codes "\n") rest in
    let at : prefix_len is_inside text ≡ length line = stops line rest none in
    let within : nat_lt (length line) (length text) ≡ true = grind (arith, nat_tests, length-append line (10 ∷ rest)) in
    rw (regroup, at, within, take-append_seam line (10 ∷ rest), drop-append-add line (10 ∷ rest) 1) refl

-- ---- the number

digits_inside : (ds : List ℕ) → AllDigits 10 ds → list_all is_inside ds ≡ true
digits_inside [] all = refl
digits_inside (c ∷ cs) all =
    let range = digit_from_value c all.0 in
    let other : (c == 10) ≡ false = grind (arith, nat_tests) in
    rw (other, digits_inside cs all.1) refl

value_again : (n : ℕ) (ds : List ℕ) → AllDigits 10 ds → decimal_on n ds ≡ Some (digits_value_after 10 n ds)
unfolding decimal_on
value_again n [] all = refl
value_again n (c ∷ cs) all =
    let range = digit_from_value c all.0 in
    let digit : is_ascii_digit c ≡ true = grind (arith, nat_tests, range) in
    let value = digit_value_digit c range in
    let same : 10 * n + (c - 48) ≡ n * 10 + digit_value c = omega (arith, value) in
    rw (digit, same) (value_again (n * 10 + digit_value c) cs all.1)

same_byte : (b : ℕ) → (b == b) ≡ true
same_byte b = grind (arith, nat_tests)

behind_again : (mark rest : List ℕ) → behind mark (mark ++ rest) ≡ Some rest
unfolding behind
behind_again [] rest = refl
behind_again (m ∷ mark) rest = rw (same_byte m) (behind_again mark rest)

-- ---- the first line of a list

abbrev pub header_text : ℕ → List ℕ
header_text count = codes "F8CASES 1 " ++ decimal count

pub header_inside : (count : ℕ) → count ≤ 65536 → list_all is_inside (header_text count) ≡ true
header_inside count few =
    let numeral = decimal_is_IsNumeral count (omega arith) in
    rw (list_all-append is_inside (codes "F8CASES 1 ") (decimal count), digits_inside (decimal count) numeral.0.1) refl

pub count_again : (count : ℕ) → 1 ≤ count → count ≤ 65536 → count_of (header_text count) ≡ Ok count
unfolding count_of
count_again n some few =
    let numeral = decimal_is_IsNumeral n (omega arith) in
    let long : nat_le 1 (length (decimal n)) ≡ true = grind (arith, nat_tests, numeral.0.0) in
    let most = length-decimal-le 7 n (omega arith) (omega arith) (omega arith) in
    let short : nat_le (length (decimal n)) 7 ≡ true = grind (arith, nat_tests, most) in
    let least : nat_le 1 n ≡ true = grind (arith, nat_tests) in
    let within : nat_le n 65536 ≡ true = grind (arith, nat_tests) in
    let read : decimal_on 0 (decimal n) ≡ Some n = value_again 0 (decimal n) numeral.0.1 ∙ ap Some numeral.1 in
    rw (behind_again (codes "F8CASES 1 ") (decimal n), long, short, read, least, within) refl
