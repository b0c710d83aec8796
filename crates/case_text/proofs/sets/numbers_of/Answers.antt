-- All numbers are small, and too many are none.
use Rattle.std.proofs.Common.{◌∙◌, sym, refl}
use Rattle.case_text.proofs.AllNumbers.{All-range}
use Rattle.case_text.proofs.WordCounts.{none_listed}
use Rattle.case_text.proofs.sets.numbers_of.Goals as goal

pub returns-then-is_word-clause-small : goal.returns-then-is_word-clause-small
returns-then-is_word-clause-small c = rw c.all_numbers.ensures (All-range 64)

pub returns-in_err-numbers-clause-value : goal.returns-in_err-numbers-clause-value
returns-in_err-numbers-clause-value c =
    rw (c.from_residual.ensures, sym c.is_word.ensures ∙ c.if-is_word.false, none_listed 64 _ c.in_err-numbers.ensures.value) refl
