-- A sum as the processor's adder gives it.
use Rattle.std.specs.Prelude.{ℕ, Bool}
use Rattle.f8_spec.specs.Words.{sum_value, sum_carry, sum_overflow}
use Rattle.f8_words.specs.declared.sums.Sum.{Sum}

-- the sum of two bytes and a carry, with its two flags
abbrev pub sum_of : ℕ → ℕ → Bool → Sum
sum_of a b carry = record { value = sum_value a b carry; carry = sum_carry a b carry; overflow = sum_overflow a b carry }
