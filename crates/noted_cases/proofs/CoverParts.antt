-- An entry is covered by another where each of its parts is.
use Rattle.std.proofs.Common.{◌≡◌, ℕ, true, refl}
use Rattle.std.specs.Prelude.{Option, Some, None, ◌==◌}
use Rattle.std.specs.Option.{option_eq}
use Rattle.std.proofs.lemmas.Bool.{eq-eqb}
use Rattle.abs_domain.specs.Lattice.{is_fact_below}
use Rattle.abs_domain.specs.Joins.{is_status_below}
use Rattle.abs_step.proofs.Knowing.{both_of}
use Rattle.value_sets.specs.ValueSets.{are_among, is_within, is_each_within}
use Rattle.case_step.specs.Entries.{EntryView}
use Rattle.case_step.specs.Results.{is_same_below, is_covered_by}

-- the upper one names no register as holding the accumulator's byte
pub record CoversParts (lower upper : EntryView) : Type 0 where
  pub at : lower.at ≡ upper.at
  pub ret : lower.ret ≡ upper.ret
  pub accumulator : is_within lower.accumulator upper.accumulator ≡ true
  pub isar : are_among upper.isar lower.isar ≡ true
  pub status : is_status_below lower.status upper.status ≡ true
  pub d0 : is_within lower.d0 upper.d0 ≡ true
  pub d1 : is_within lower.d1 upper.d1 ≡ true
  pub c : is_within lower.c upper.c ≡ true
  pub s0 : is_fact_below lower.s0 upper.s0 ≡ true
  pub s1 : is_fact_below lower.s1 upper.s1 ≡ true
  pub p0 : is_fact_below lower.p0 upper.p0 ≡ true
  pub p1 : is_fact_below lower.p1 upper.p1 ≡ true
  pub same : upper.same ≡ None
  pub scratchpad : is_each_within lower.scratchpad upper.scratchpad ≡ true

same_ret : (a b : Option ℕ) → a ≡ b → option_eq (λ x y. x == y) a b ≡ true
same_ret None None is = refl
same_ret None (Some y) is = absurd (cc)
same_ret (Some x) None is = absurd (cc)
same_ret (Some x) (Some y) is = eq-eqb x y (cc)

none_named : (lower : EntryView) (o : Option ℕ) → o ≡ None → is_same_below lower o ≡ true
none_named lower None none = refl
none_named lower (Some number) none = absurd (cc)

pub covered_in_parts : (lower upper : EntryView) → CoversParts lower upper → is_covered_by lower upper ≡ true
unfolding is_covered_by
covered_in_parts lower upper h =
    let place = both_of _ _ (eq-eqb lower.at upper.at h.at) (same_ret lower.ret upper.ret h.ret) in
    let registers = both_of _ _ (both_of _ _ (both_of _ _ place h.accumulator) h.isar) h.status in
    let counters = both_of _ _ (both_of _ _ (both_of _ _ registers h.d0) h.d1) h.c in
    let facts = both_of _ _ (both_of _ _ (both_of _ _ (both_of _ _ counters h.s0) h.s1) h.p0) h.p1 in
    both_of _ _ (both_of _ _ facts (none_named lower upper.same h.same)) h.scratchpad
