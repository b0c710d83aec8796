-- What sums and their flags say of the numbers that the bytes stand for.
use Rattle.std.specs.Prelude.{◌≡◌, ◌↔◌, ◌⊎◌, ℕ, ◌+◌, ◌-◌, ◌*◌, ◌/◌, ◌%◌, ◌<◌, Bool, true, false, nat_le, ◌==◌}
use Rattle.f8_spec.specs.Words.{bit_of, sum_value, sum_carry, sum_overflow, decimal_value}
use Rattle.f8_spec.specs.Flags.{is_zero}

-- A byte is compared by adding its complement and 1 to the other: carry is set where it isn't the greater one, and zero where they are equal.
abbrev pub Compares : ℕ → ℕ → Type 0
Compares a n = (sum_carry n (255 - a) true ≡ nat_le a n) × (is_zero (sum_value n (255 - a) true) ≡ (n == a))

-- a byte as a signed number, -128 to 127, and 128 more
abbrev pub signed_and_128 : ℕ → ℕ
signed_and_128 byte = (byte + 128) % 256

-- overflow is set exactly where the sum of the signed numbers and the carry is below -128 or above 127
abbrev pub Overflows : ℕ → ℕ → Bool → Type 0
Overflows a b carry =
    let sum_and_256 = signed_and_128 a + signed_and_128 b + bit_of carry in
    (sum_overflow a b carry ≡ true) ↔ ((sum_and_256 < 128) ⊎ (383 < sum_and_256))

-- a number below 100 as two decimal digits of a byte
abbrev pub packed : ℕ → ℕ
packed number = number / 10 * 16 + number % 10

-- two numbers of two decimal digits, to one of which 66 (hexadecimal) was added beforehand: the digits of their sum, and carry from 100 on
abbrev pub AddsDecimals : ℕ → ℕ → Type 0
AddsDecimals m n =
    (decimal_value (packed m + 0x66) (packed n) ≡ packed ((m + n) % 100)) × (sum_carry (packed m + 0x66) (packed n) false ≡ nat_le 100 (m + n))

pub record SumLaw : Type 0 where
  pub compares : (a n : ℕ) → a < 256 → n < 256 → Compares a n
  pub overflows : (a b : ℕ) (carry : Bool) → a < 256 → b < 256 → Overflows a b carry
  pub decimals : (m n : ℕ) → m < 100 → n < 100 → AddsDecimals m n
