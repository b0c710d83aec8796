-- The register named below is the one named above, or it and the accumulator are compared.
use Rattle.std.proofs.Common.{refl, arith}
use Rattle.std.specs.Prelude.{None}
use Rattle.std.proofs.lemmas.List.FromFn.{get_or-map-range_with_len}
use Rattle.abs_domain.specs.StateView.{state_of}
use Rattle.case_step.specs.EntryViews.{entry_view}
use Rattle.case_step.specs.Results.{register_after, result}
use Rattle.case_step.proofs.outcome.Outcome.is_same_covered.Goals as goal

pub returns-then-eq : goal.returns-then-eq
unfolding result
returns-then-eq c = rw (c.in-Some.is, ← c.same_after.ensures, ← c.eq.ensures, c.if-eq.true) refl

pub returns-else-eq : goal.returns-else-eq
unfolding result
returns-else-eq c =
    let o = c.args.self.now in
    let after = register_after o.op (entry_view o.entry.now) (state_of o.before.now) (state_of o.after.now) in
    let number = c.in-Some.number in
    rw (
      c.in-Some.is,
      ← c.same_after.ensures,
      ← c.eq.ensures,
      c.if-eq.false,
      get_or-map-range_with_len after 0 64 number number None (c.args.upper.now.same_register number c.in-Some.is) (omega arith),
    )
    c.holds_accumulator.ensures
