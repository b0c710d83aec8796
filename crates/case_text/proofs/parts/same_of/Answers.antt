-- The number is one of those that are small.
use Rattle.case_text.proofs.PartLengths.{only_small}
use Rattle.case_text.proofs.parts.same_of.Goals as goal

pub returns-clause-small : goal.returns-clause-small
returns-clause-small c =
    λ x is. only_small 64 c.in_ok-octals_of.field-0.items x c.in_ok-octals_of.ensures.small (rw (is, c.deref.ensures.0) at c.in_ok-number.ensures)
