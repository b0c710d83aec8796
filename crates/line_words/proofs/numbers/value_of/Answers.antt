-- The digits so far make the value.
use Rattle.std.proofs.Common.{arith}
use Rattle.line_words.proofs.NumberLaws.{small_value}
use Rattle.line_words.proofs.numbers.value_of.Goals as goal

pub overflow_mul-value : goal.overflow_mul-value
overflow_mul-value c =
    omega (
      arith,
      small_value c.loop-digit.digit-index c.loop-digit.value
          (omega (arith, c.loop-digit-test.true, c.requires)) c.loop-digit.invariant.small,
    )

pub overflow_add-value : goal.overflow_add-value
overflow_add-value c =
    omega (
      arith,
      small_value c.loop-digit.digit-index c.loop-digit.value
          (omega (arith, c.loop-digit-test.true, c.requires)) c.loop-digit.invariant.small,
    )
