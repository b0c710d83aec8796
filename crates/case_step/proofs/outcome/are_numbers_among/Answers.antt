-- A list's numbers are all among it.
use Rattle.std.proofs.Common.{◌≡◌, true, sym, subst}
use Rattle.std.proofs.lemmas.Slice.Eq.{bytes_eq-Decides}
use Rattle.value_sets.specs.ValueSets.{are_among}
use Rattle.case_step.proofs.SetLaws.{among_itself}
use Rattle.case_step.proofs.outcome.are_numbers_among.Goals as goal

pub returns-then-eq : goal.returns-then-eq
returns-then-eq c =
    let upper = c.args.upper.now in
    subst (λ lower. true ≡ are_among upper lower) ((bytes_eq-Decides upper c.args.lower.now).0 (rw (← c.eq.ensures) c.if-eq.true))
    (sym (among_itself upper))
