-- What sums and their flags say of numbers.
use Rattle.std.proofs.Common.{ℕ, ◌<◌, Bool, true, false, arith}
use Rattle.f8_words.specs.SumLaw.{Compares, Overflows, AddsDecimals, SumLaw}

compares : (a n : ℕ) → a < 256 → n < 256 → Compares a n
compares a n small_a small_n = (grind arith, grind arith)

overflows : (a b : ℕ) (carry : Bool) → a < 256 → b < 256 → Overflows a b carry
overflows a b true small_a small_b = grind arith
overflows a b false small_a small_b = grind arith

adds_decimals : (m n : ℕ) → m < 100 → n < 100 → AddsDecimals m n
adds_decimals m n small_m small_n = (grind arith, grind arith)

pub sum_law : SumLaw
sum_law = record { compares = compares; overflows = overflows; decimals = adds_decimals }
