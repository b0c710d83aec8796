-- Bytes and addresses, as numbers, and the sums of the processor (Fairchild F8 User's Guide). Addresses are modulo 65,536.
use Rattle.std.specs.Prelude.{ℕ, ◌+◌, ◌-◌, ◌*◌, ◌/◌, ◌%◌, Bool, true, false, not, nat_le, if◌then◌else◌, ℤ, pos, negsuc}
use Rattle.std.specs.Int.{w8, cast_signed}

-- a flag as a number
abbrev pub bit_of : Bool → ℕ
bit_of false = 0
bit_of true = 1

-- ---- words of two bytes

abbrev pub word : ℕ → ℕ → ℕ
word high low = high * 256 + low

-- the word with its high byte changed, and with its low byte changed
abbrev pub with_high : ℕ → ℕ → ℕ
with_high at high = high * 256 + at % 256

abbrev pub with_low : ℕ → ℕ → ℕ
with_low at low = at / 256 * 256 + low

-- ---- addresses

-- the address n places on
abbrev pub places_on : ℕ → ℕ → ℕ
places_on at n = (at + n) % 65536

-- the address moved by a signed number from -65,536 on: negsuc n is -(n + 1)
abbrev pub wrapped : ℕ → ℤ → ℕ
wrapped at (pos n) = (at + n) % 65536
wrapped at (negsuc n) = (at + 65535 - n) % 65536

-- the address moved by a byte that is read as a signed number
abbrev pub displaced : ℕ → ℕ → ℕ
displaced at byte = wrapped at (cast_signed w8 byte)

-- ---- sums of two bytes and a carry

abbrev pub whole_sum : ℕ → ℕ → Bool → ℕ
whole_sum a b carry = a + b + bit_of carry

-- what is left of the sum in a byte
abbrev pub sum_value : ℕ → ℕ → Bool → ℕ
sum_value a b carry = whole_sum a b carry % 256

-- the carry out of bit 7
abbrev pub sum_carry : ℕ → ℕ → Bool → Bool
sum_carry a b carry = nat_le 256 (whole_sum a b carry)

-- the carry out of bit 6 and the carry out of bit 7 differ
abbrev pub sum_overflow : ℕ → ℕ → Bool → Bool
sum_overflow a b carry =
    let into_sign = nat_le 128 (whole_sum (a % 128) (b % 128) carry) in
    if into_sign then not (sum_carry a b carry) else sum_carry a b carry

-- a digit after a decimal sum: it gains 10 where nothing was carried out of it
abbrev pub decimal_digit : ℕ → Bool → ℕ
decimal_digit digit carried = if carried then digit else (digit + 10) % 16

-- The decimal sum: the binary sum, with each digit corrected for itself and no carry between the two. The rule is
-- this project's own, after the manual.
abbrev pub decimal_value : ℕ → ℕ → ℕ
decimal_value a b =
    let value = sum_value a b false in
    let high = decimal_digit (value / 16) (sum_carry a b false) in
    let low = decimal_digit (value % 16) (nat_le 16 (a % 16 + b % 16)) in
    high * 16 + low
