-- The analysis of a cartridge meets the laws of an analysis.
use Rattle.std.proofs.Common.{◌≡◌, ℕ, true, false, List, [], ◌∷◌, map, refl, sym, subst, inl, inr}
use Rattle.std.specs.Prelude.{Option, Some, None, Ok}
use Rattle.std.specs.List.{AllByRecursion, Contains}
use Rattle.f8_spec.specs.BusArbitration.{Seat}
use Rattle.f8_spec.specs.declared.instructions.Op.{Op}
use Rattle.abs_domain.specs.AbstractState.{AbstractState, StateBelow}
use Rattle.abs_domain.specs.Joins.{is_state_below}
use Rattle.abs_domain.specs.declared.points.Point.{Point}
use Rattle.abs_domain.proofs.Orders.{order_laws}
use Rattle.abs_domain.proofs.Bounds.{join_laws}
use Rattle.abs_domain.proofs.Ranks.{rank_laws}
use Rattle.abs_domain.proofs.PointOrders.{point_laws}
use Rattle.abs_domain.specs.declared.reason.Reason.{Reason}
use Rattle.abs_step.specs.MapView.{MapView, IsViewOf}
use Rattle.abs_step.specs.Successors.{Invariant, successors}
use Rattle.abs_step.specs.Safety.{unsafe_reason, op_at}
use Rattle.abs_step.specs.StepOrder.{IsOrdered, Covers}
use Rattle.abs_step.specs.Analysis.{LeadsBelow, AnalysisLaws}
use Rattle.abs_step.specs.CartridgeAnalysis.{FitsPoint, TellsBytes, entry_of, answer_by, answer_at, analysis}
use Rattle.abs_step.proofs.Members.{IsIn, contains_of_in, from_all, in_of_contains, all_map, all_mapped}
use Rattle.abs_step.proofs.Reasons.{safe_state}
use Rattle.abs_step.proofs.SuccessorOrder.{step_order}
use Rattle.abs_step.proofs.PointFits.{start_fits, joined_fits, successors_fit}

-- ---- a safe state has an instruction, and what holds next is that of it

pub record IsNext (m : MapView) (tracked : List ℕ) (x : Invariant) (ways : List (Point × AbstractState)) : Type 0 where
  pub op : Op
  pub is : op_at m x ≡ Some op
  pub safe : unsafe_reason m tracked x ≡ None
  pub same : map entry_of (successors op m tracked x) ≡ ways

pub next_is : (m : MapView) (tracked : List ℕ) (x : Invariant) (ways : List (Point × AbstractState)) → answer_at m tracked x ≡ Ok ways →
    IsNext m tracked x ways
next_is m tracked x ways e = by (unsafe_reason m tracked x) refl (op_at m x) refl e
  where
    by : (reason : Option Reason) → unsafe_reason m tracked x ≡ reason → (o : Option Op) → op_at m x ≡ o →
        answer_by reason o m tracked x ≡ Ok ways →
        IsNext m tracked x ways
    by (Some reason) r o q e = absurd (cc)
    by None r None q e = let safe = safe_state m tracked x r in let has = safe.1.is in absurd (cc)
    by None r (Some op) q e = record { op = op; is = q; safe = r; same = cc }

pub is_next : (m : MapView) (tracked : List ℕ) (x : Invariant) (op : Op) → unsafe_reason m tracked x ≡ None → op_at m x ≡ Some op →
    answer_at m tracked x ≡ Ok (map entry_of (successors op m tracked x))
is_next m tracked x op safe is = rw (safe, is) refl

-- ---- the order

below_of : (s t : AbstractState) → is_state_below s t ≡ true → StateBelow s t
below_of s t test = (order_laws.test s t).0 test

test_of : (s t : AbstractState) → StateBelow s t → is_state_below s t ≡ true
test_of s t below = (order_laws.test s t).1 below

not_below : (s t : AbstractState) → is_state_below s t ≡ false → StateBelow s t → ⊥
not_below s t test below = let holds = test_of s t below in absurd (cc)

-- e has an element of the list at its point that says no more
abbrev IsMatched : List (Point × AbstractState) → Point × AbstractState → Type 0
IsMatched upper e = (u : AbstractState) × Contains upper (e.0, u) × (is_state_below e.1 u ≡ true)

-- what is covered is so by an element
cover_in : (zs : List Invariant) (x : Invariant) → Covers zs x →
    (u : AbstractState) × IsIn (x.point, u) (map entry_of zs) × (is_state_below x.state u ≡ true)
cover_in [] x h = absurd h
cover_in (z ∷ zs) x (inl here) = (z.state, inl (λ i. (here.0 i, z.state)), test_of x.state z.state here.1)
cover_in (z ∷ zs) x (inr later) = let rest = cover_in zs x later in (rest.0, inr rest.1, rest.2)

all_matched : (zs xs : List Invariant) (ws : List (Point × AbstractState)) → map entry_of zs ≡ ws → AllByRecursion (Covers zs) xs →
    AllByRecursion (IsMatched ws) (map entry_of xs)
all_matched zs xs ws same covered = all_mapped entry_of (IsMatched ws) xs (all_map (Covers zs) _ xs each covered)
  where
    each : (x : Invariant) → Covers zs x → IsMatched ws (entry_of x)
    each x h =
        let found = cover_in zs x h in
        let among : Contains ws (x.point, found.0) =
        subst (λ (vs : List (Point × AbstractState)). Contains vs (x.point, found.0)) same (contains_of_in _ _ found.1) in
        (found.0, among, found.2)

module _ (m : MapView) (seats : List Seat) (tracked : List ℕ) (view : IsViewOf m seats) (tells : TellsBytes m) where
  ordered : (p : Point) (lower upper : AbstractState) → FitsPoint tracked p lower → FitsPoint tracked p upper →
      is_state_below lower upper ≡ true → IsOrdered tracked p lower upper
  ordered p lower upper first second below = record {
    below = below_of lower upper below;
    lower_fits = first.split;
    upper_fits = second.split;
    scratchpad = second.scratchpad;
    address = first.range.d0;
  }

  keeps : (p : Point) (lower upper : AbstractState) (ways : List (Point × AbstractState)) → FitsPoint tracked p lower →
      FitsPoint tracked p upper →
      is_state_below lower upper ≡ true → answer_at m tracked (record { point = p; state = upper }) ≡ Ok ways →
      LeadsBelow (analysis m tracked) p lower ways
  keeps p lower upper ways first second below e =
      let x : Invariant = record { point = p; state = lower } in
      let next = next_is m tracked (record { point = p; state = upper }) ways e in
      let order = ordered p lower upper first second below in
      let safe = step_order.safe m seats tracked p lower upper view order next.safe in
      let upper_ways = successors next.op m tracked (record { point = p; state = upper }) in
      let covered = step_order.successors m seats tracked p lower upper view order next.safe next.op next.is in
      record {
        lower = map entry_of (successors next.op m tracked x);
        safe = is_next m tracked x next.op safe next.is;
        followed = record {
          each =
              λ q t way. from_all (IsMatched ways) _ (q, t) (all_matched upper_ways _ ways next.same covered) (in_of_contains _ (q, t) way);
        };
      }

  next_fits : (p : Point) (s : AbstractState) (ways : List (Point × AbstractState)) → FitsPoint tracked p s →
      answer_at m tracked (record { point = p; state = s }) ≡ Ok ways → (q : Point) (t : AbstractState) → Contains ways (q, t) →
      FitsPoint tracked q t
  next_fits p s ways h e q t way =
      let x : Invariant = record { point = p; state = s } in
      let next = next_is m tracked x ways e in
      let fit = successors_fit tracked m tells x h next.op next.is in
      let all : AllByRecursion (λ (d : Point × AbstractState). FitsPoint tracked d.0 d.1) (map entry_of (successors next.op m tracked x)) =
      all_mapped entry_of _ (successors next.op m tracked x) fit in
      let among : Contains (map entry_of (successors next.op m tracked x)) (q, t) =
      subst (λ (ws : List (Point × AbstractState)). Contains ws (q, t)) (sym next.same) way in
      from_all _ (map entry_of (successors next.op m tracked x)) (q, t) all (in_of_contains _ (q, t) among)

  pub cartridge_laws : AnalysisLaws (analysis m tracked)
  cartridge_laws = record {
    total = point_laws.total;
    exact = point_laws.exact;
    reflexive = λ s. test_of s s (order_laws.reflexive s);
    transitive = λ s t u first second. test_of s u (order_laws.transitive s t u (below_of s t first) (below_of t u second));
    first = λ p s t h k. test_of s _ (join_laws.first s t h.scratchpad k.scratchpad);
    second = λ p s t h k. test_of t _ (join_laws.second s t h.scratchpad k.scratchpad);
    least = λ s t u first second. test_of _ u (join_laws.least s t u (below_of s u first) (below_of t u second));
    keeps = keeps;
    fault_free = λ p lower upper h k below free.
        step_order.fault_free m seats tracked p lower upper view (ordered p lower upper h k below) free;
    falls = λ p s t h k apart. rank_laws.falls s t h.scratchpad k.scratchpad (not_below t s apart);
    most = λ p s h. rank_laws.most s h.scratchpad;
    start_fits = start_fits tracked;
    join_fits = joined_fits tracked;
    next_fits = next_fits;
  }
