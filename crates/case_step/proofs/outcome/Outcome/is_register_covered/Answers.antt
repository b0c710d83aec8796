-- What is known of the register, and the values of both entries.
use Rattle.case_step.proofs.Outcomes.{known_at, values_at}
use Rattle.case_step.proofs.outcome.Outcome.is_register_covered.Goals as goal

pub returns : goal.returns
returns c =
    let number = c.args.number in
    let values = rw c.from-place.ensures at c.index-values-place.is in
    let allowed = rw c.from-place.ensures at c.index-allowed-place.is in
    rw (
      known_at c.args.self.now.after.now number c.requires.within,
      known_at c.args.self.now.before.now number c.requires.within,
      values_at c.args.self.now.entry.now number c.index-values-place.result c.requires.within values,
      values_at c.args.upper.now number c.index-allowed-place.result c.requires.within allowed,
      ← c.requires.all,
      ← c.is_among_written-is_written.ensures,
    )
    (rw c.from-place.ensures at c.is_byte_within.ensures)
