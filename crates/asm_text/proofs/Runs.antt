-- Runs of bytes of one class: names, and digits with the number that they spell.
use Rattle.std.proofs.Common.{◌≡◌, ℕ, suc, ◌+◌, ◌*◌, ◌<◌, ◌≤◌, Bool, true, List, [], ◌∷◌, length, get_or, take, drop}
use Rattle.std.proofs.Common.{IsUtf8, Some, None, ◌^◌, lit<, zero, refl, sym, ◌∙◌, ap, arith, take-append-drop}
use Rattle.std.specs.List.{list_all, prefix_len, fold}
use Rattle.std.specs.Char.{digit_value, is_digit}
use Rattle.std.proofs.lemmas.List.{take_all}
use Rattle.std.proofs.lemmas.Grind.{common_steps}
use Rattle.std.specs.Str.{IsAscii}
use Rattle.std.proofs.lemmas.Bool.Decides.{nat_tests}
use Rattle.std.proofs.lemmas.Str.{IsUtf8-from_ascii, IsUtf8-nil}
use Rattle.std.proofs.lemmas.List.Sums.{fold-append, fold_more}
use Rattle.std.proofs.Math.Nat.{le-mul_of_pos_right}
use Rattle.asm_text.specs.Bytes.{is_name_byte, begins_name, is_name, value, narrow}

-- the front of a list is its first element and a front of the rest
front_more : (n x : ℕ) (xs : List ℕ) → take (1 + n) (x ∷ xs) ≡ x ∷ take n xs
front_more n x xs = let next : 1 + n ≡ suc n = omega arith in rw next refl

-- the longest run of a class is of that class
pub all_in_run : (p : ℕ → Bool) (xs : List ℕ) → list_all p (take (prefix_len p xs) xs) ≡ true
all_in_run p [] = refl
all_in_run p (x ∷ xs) = grind (arith, common_steps, front_more, all_in_run p xs)

-- the longest run of bytes of a name, at a byte that begins one, is a name if it isn't too long
pub name_run : (bytes : List ℕ) → begins_name bytes ≡ true → prefix_len is_name_byte bytes ≤ 32 → is_name (take (prefix_len is_name_byte bytes) bytes) ≡ true
name_run [] begins short = begins
name_run (b ∷ bs) begins short = grind (arith, common_steps, front_more, all_in_run is_name_byte bs)

-- the bytes of names are ASCII
ascii_bytes : (bytes : List ℕ) → list_all is_name_byte bytes ≡ true → IsAscii bytes
ascii_bytes [] all i = lit< tt
ascii_bytes (b ∷ bs) all zero = grind (arith, common_steps, nat_tests)
ascii_bytes (b ∷ bs) all (suc i) = ascii_bytes bs (grind (arith, common_steps)) i

-- a name is ASCII
pub ascii_name : (bytes : List ℕ) → is_name bytes ≡ true → IsUtf8 bytes
ascii_name [] name = IsUtf8-nil
ascii_name (b ∷ bs) name = IsUtf8-from_ascii (b ∷ bs) (ascii_bytes (b ∷ bs) (grind (arith, common_steps)))

-- no digits spell 0
pub value_none : (base : ℕ) → value base [] ≡ 0
unfolding value
value_none base = refl

-- one more digit
pub value_more : (base : ℕ) (digits : List ℕ) (i : ℕ) → i < length digits →
    value base (take (i + 1) digits) ≡ value base (take i digits) * base + digit_value (get_or digits i 0)
unfolding value
value_more base digits i within = fold_more (λ sum digit. sum * base + digit_value digit) 0 digits i 0 within

-- more digits make no smaller number
grows : (base : ℕ) → 1 ≤ base → (sum : ℕ) (digits : List ℕ) → sum ≤ fold (λ sum digit. sum * base + digit_value digit) sum digits
grows base positive sum [] = omega arith
grows base positive sum (d ∷ ds) = omega (arith, grows base positive (sum * base + digit_value d) ds, le-mul_of_pos_right sum positive)

-- the first digits of a number make no greater one
value_front : (base : ℕ) (digits : List ℕ) (i : ℕ) → 1 ≤ base → value base (take i digits) ≤ value base digits
unfolding value
value_front base digits i positive =
    let f : ℕ → ℕ → ℕ = λ sum digit. sum * base + digit_value digit in
    let whole : fold f 0 digits ≡ fold f (fold f 0 (take i digits)) (drop i digits) =
    ap (fold f 0) (sym (take-append-drop i digits)) ∙ fold-append f 0 (take i digits) (drop i digits) in
    omega (arith, grows base positive (fold f 0 (take i digits)) (drop i digits))

-- what 32 bits hold
pub narrow_fits : (n new : ℕ) → Some new ≡ narrow n → new < 2 ^ 32
unfolding narrow
narrow_fits n new fits = grind (arith, nat_tests)

-- the sum with one digit more, where 32 bits hold it
pub one_more : (base sum digit new : ℕ) (digits : List ℕ) (i : ℕ) → sum ≡ value base (take i digits) →
    i < length digits → digit ≡ digit_value (get_or digits i 0) → Some new ≡ narrow (sum * base + digit) →
    new ≡ value base (take (i + 1) digits)
unfolding narrow
one_more base sum digit new digits i so_far within is_digit fits =
    let new_is : new ≡ sum * base + digit = grind (arith, nat_tests) in
    rw (value_more base digits i within, new_is, so_far, is_digit) refl

-- a number is too wide where the sum with one digit more is
pub too_wide : (base sum digit : ℕ) (digits : List ℕ) (i : ℕ) → 1 ≤ base → sum ≡ value base (take i digits) →
    i < length digits → digit ≡ digit_value (get_or digits i 0) → None ≡ narrow (sum * base + digit) →
    None ≡ narrow (value base digits)
unfolding narrow
too_wide base sum digit digits i positive so_far within is_digit wide =
    let above : 2 ^ 32 ≤ sum * base + digit = grind (arith, nat_tests) in
    let same : value base (take (i + 1) digits) ≡ sum * base + digit = rw (value_more base digits i within, so_far, is_digit) refl in
    let whole : 2 ^ 32 ≤ value base digits = omega (arith, value_front base digits (i + 1) positive) in
    grind (arith, nat_tests)

-- the number of all the digits, which 32 bits hold
pub held : (base sum : ℕ) (digits : List ℕ) (i : ℕ) → sum < 2 ^ 32 → sum ≡ value base (take i digits) →
    length digits ≤ i → Some sum ≡ narrow (value base digits)
unfolding narrow
held base sum digits i fits so_far whole =
    let same : value base digits ≡ sum = ap (value base) (sym (take_all i digits whole)) ∙ sym so_far in
    rw same (grind (arith, nat_tests))
