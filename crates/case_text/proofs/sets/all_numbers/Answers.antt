-- One number more.
use Rattle.std.proofs.Common.{◌∙◌, ◌++◌, ◌∷◌, [], List, ℕ, ap, sym, arith}
use Rattle.case_text.proofs.AllNumbers.{range_more}
use Rattle.case_text.proofs.sets.all_numbers.Goals as goal

pub loop-number-preserved : goal.loop-number-preserved
loop-number-preserved c = (
  c.push.ensures.items ∙ ap (λ (xs : List ℕ). xs ++ c.loop-number.number ∷ []) c.loop-number.invariant.0 ∙ sym (range_more c.loop-number.number),
  omega (arith, c.push.ensures.len),
)
