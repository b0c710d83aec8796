-- What follows from the laws of an analysis alone: reached states fit their points, every closed and safe map covers them, and so an unsafe
-- one, or too many points, show that there is no such map; and the least one is free of faults where some is.
use Rattle.std.proofs.Common.{◌≡◌, ◌≤◌, true, List, length, refl, sym, ◌∙◌, subst, arith}
use Rattle.std.specs.Prelude.{Ok, Err, IsSome}
use Rattle.std.specs.List.{All, Contains, list_any}
use Rattle.std.specs.Map.{lookup}
use Rattle.std.specs.BTreeMap.{is_at}
use Rattle.std.specs.Ordering.{eq_by_cmp, is_eq}
use Rattle.std.specs.declared.cmp.Ordering.{Ordering}
use Rattle.std.specs.declared.cmp.Ordering.TheVariants.{Less, Equal, Greater}
use Rattle.std.proofs.lemmas.Map.Steps.{length-le_from_keys}
use Rattle.std.proofs.lemmas.Map.Views.{Contains-from_any}
use Rattle.std.proofs.lemmas.List.Elements.{All-contains}
use Rattle.std.proofs.lemmas.Cmp.{eq_by_cmp_equiv}
use Rattle.abs_domain.specs.declared.reason.Reason.{Reason}
use Rattle.abs_step.specs.Analysis.{Analysis, AnalysisLaws}
use Rattle.abs_step.specs.ReachedStates.{Reached, start, joined, next, CoversAt}
use Rattle.abs_step.specs.ReachedStates.{IsSafelyClosed, HoldsFaultFreeStates, IsLeastMap, IsLowestMap}
use Rattle.abs_step.specs.ReachedStates.{SomeIsSafe, SomeIsFaultFree, ReachesUnsafe, ReachesTooMany}

module _ {P S : Type 0} (an : Analysis P S) (laws : AnalysisLaws an) where
  pub reached_fits : {p : P} {s : S} → Reached an p s → an.fits p s
  reached_fits start = laws.start_fits
  reached_fits (joined {p} {s} {t} first second) = laws.join_fits p s t (reached_fits first) (reached_fits second)
  reached_fits (next {p} {q} {s} {t} {ways} before is way) = laws.next_fits p s ways (reached_fits before) is q t way

  -- ---- a closed and safe map covers what is reached

  module _ (notes : List (P × S)) (closed : IsSafelyClosed an notes) where
    joined_covered : (p : P) (s t : S) → CoversAt an notes p s → CoversAt an notes p t → CoversAt an notes p (an.join s t)
    joined_covered p s t first second =
        let same : second.upper ≡ first.upper = cc in
        record {
          upper = first.upper;
          noted = first.noted;
          below = laws.least s t first.upper first.below (subst (λ (u : S). an.below t u ≡ true) same second.below);
        }

    next_covered : (p q : P) (s t : S) (ways : List (P × S)) → an.fits p s → an.next p s ≡ Ok ways → Contains ways (q, t) →
        CoversAt an notes p s → CoversAt an notes q t
    next_covered p q s t ways fits is way here =
        let fitting = closed.is_map.fits p here.upper here.noted in
        let safe = closed.safe p here.upper here.noted in
        let leads = laws.keeps p s here.upper safe.0 fits fitting here.below safe.1 in
        let same : leads.lower ≡ ways = cc in
        let above = leads.followed.each q t (subst (λ (ws : List (P × S)). Contains ws (q, t)) (sym same) way) in
        let there = closed.closed.next p here.upper safe.0 here.noted safe.1 q above.0 above.1 in
        record { upper = there.upper; noted = there.noted; below = laws.transitive t above.0 there.upper above.2 there.below }

    pub reached_covered : {p : P} {s : S} → Reached an p s → CoversAt an notes p s
    reached_covered start = closed.closed.start
    reached_covered (joined {p} {s} {t} first second) = joined_covered p s t (reached_covered first) (reached_covered second)
    reached_covered (next {p} {q} {s} {t} {ways} before is way) =
        next_covered p q s t ways (reached_fits before) is way (reached_covered before)

  -- ---- what shows that there is no such map

  pub none_past_unsafe : (p : P) (s : S) (reason : Reason) → ReachesUnsafe an p s reason → SomeIsSafe an → ⊥
  none_past_unsafe p s reason unsafe some =
      let here = reached_covered some.0 some.1 unsafe.reached in
      let fitting = some.1.is_map.fits p here.upper here.noted in
      let safe = some.1.safe p here.upper here.noted in
      let leads = laws.keeps p s here.upper safe.0 (reached_fits unsafe.reached) fitting here.below safe.1 in
      let same : Err reason ≡ Ok leads.lower = sym unsafe.unsafe ∙ leads.safe in
      cc

  -- only a point itself passes the test of it
  same_by_order : (p q : P) → eq_by_cmp an.order p q ≡ true → p ≡ q
  same_by_order p q is = by (an.order p q) refl is
    where
      by : (o : Ordering) → an.order p q ≡ o → is_eq o ≡ true → p ≡ q
      by Less e is = absurd (cc)
      by Equal e is = laws.exact p q e
      by Greater e is = absurd (cc)

  -- each of these points has a state of the map
  all_noted : (notes : List (P × S)) → IsSafelyClosed an notes → (points : List P) → All (λ p. (s : S) × Reached an p s) points →
      (q : P) → list_any (eq_by_cmp an.order q) points ≡ true → IsSome (lookup (is_at (an.order q)) notes)
  all_noted notes closed points reached q is =
      let among : Contains points q = Contains-from_any same_by_order q points is in
      let state = All-contains (λ p. (s : S) × Reached an p s) points q reached among in
      let here = reached_covered notes closed state.1 in
      rw here.noted refl

  pub none_past_too_many : ReachesTooMany an → SomeIsSafe an → ⊥
  none_past_too_many many some =
      let most : length many.points ≤ length some.0 =
      length-le_from_keys (eq_by_cmp_equiv laws.total) many.points some.0 many.distinct
      (all_noted some.0 some.1 many.points many.reached) in
      let few = some.1.is_map.few in
      let more = many.many in
      absurd (omega arith)

  -- ---- the least map

  pub least_is_lowest : (notes : List (P × S)) → IsLeastMap an notes → IsLowestMap an notes
  least_is_lowest notes least others closed p s noted = reached_covered others closed (least.reached p s noted)

  -- it is free of faults where some closed and safe map is
  pub least_is_fault_free : (notes : List (P × S)) → IsLeastMap an notes → SomeIsFaultFree an → HoldsFaultFreeStates an notes
  least_is_fault_free notes least some p s noted =
      let here = reached_covered some.0 some.1 (least.reached p s noted) in
      let fits = least.closed.is_map.fits p s noted in
      let fitting = some.1.is_map.fits p here.upper here.noted in
      laws.fault_free p s here.upper fits fitting here.below (some.2 p here.upper here.noted)
