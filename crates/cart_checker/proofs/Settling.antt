-- A state is settled: all that holds next is added, one after the other.
use Rattle.std.proofs.Common.{◌≡◌, ℕ, zero, suc, ◌+◌, ◌<◌, ◌≤◌, List, [], ◌∷◌}
use Rattle.std.proofs.Common.{length, map, slice_index_or, get_or, refl, sym, ap, ◌∙◌, subst, arith}
use Rattle.std.specs.Prelude.{Option, Some, None, option_map, slice_get, Ok, Err}
use Rattle.std.specs.List.{All, AllWithin, Contains}
use Rattle.std.proofs.lemmas.Option.{get_or_from_slice_get, slice_get-get_or}
use Rattle.std.proofs.lemmas.List.Elements.{AllWithin-none, AllWithin-more, AllWithin-upto, All-from_all_within, All-map, All-contains}
use Rattle.f8_spec.specs.declared.instructions.Op.{Op}
use Rattle.memory_map.specs.MapOf.{MapTable}
use Rattle.abs_domain.specs.AbstractState.{AbstractState}
use Rattle.abs_domain.specs.StateView.{state_of}
use Rattle.abs_domain.specs.PointOrder.{point_cmp}
use Rattle.abs_domain.specs.Joins.{is_state_below, joined_state}
use Rattle.abs_domain.specs.declared.points.Point.{Point}
use Rattle.abs_domain.specs.declared.state.Abs.{Abs}
use Rattle.abs_domain.specs.declared.reason.Reason.{Reason}
use Rattle.abs_step.specs.MapView.{MapView, view_of}
use Rattle.abs_step.specs.Successors.{Invariant, start_invariant}
use Rattle.abs_step.specs.Safety.{unsafe_reason, op_at}
use Rattle.abs_step.specs.StepView.{invariant_at, invariant_of, next_by, next_at}
use Rattle.abs_step.specs.Analysis.{AnalysisLaws}
use Rattle.abs_step.specs.CartridgeAnalysis.{entry_of, answer_by, answer_at}
use Rattle.abs_step.specs.ReachedStates.{Reached, next, CoversAt}
use Rattle.cart_checker.specs.Worklists.{Work, Added, Holds, Nothing, Only, effort}
use Rattle.cart_checker.specs.WorkView.{map_analysis}
use Rattle.cart_checker.proofs.Rounds.{added_holds, settled_by_all}
use Rattle.cart_checker.proofs.Efforts.{added_falls}

-- ---- what holds next

safe_answer : (o : Option Op) (m : MapView) (tracked : List ℕ) (x : Invariant) →
    answer_by None o m tracked x ≡ Ok (map entry_of (next_by o m tracked x))
safe_answer None m tracked x = refl
safe_answer (Some op) m tracked x = refl

-- what a safe state leads to
pub record IsAnswer (m : MapTable) (tracked : List ℕ) (p : Point) (s : Abs) (ways : List Invariant) : Type 0 where
  pub safe : unsafe_reason (view_of m) tracked (invariant_at p s) ≡ None
  pub leads : ways ≡ next_at (view_of m) tracked (invariant_at p s)

pub next_ok : (m : MapTable) (tracked : List ℕ) (p : Point) (s : Abs) (ways : List Invariant) → IsAnswer m tracked p s ways →
    answer_at (view_of m) tracked (invariant_at p s) ≡ Ok (map entry_of ways)
next_ok m tracked p s ways answer =
    let x = invariant_at p s in
    ap (λ (r : Option Reason). answer_by r (op_at (view_of m) x) (view_of m) tracked x) answer.safe
    ∙ safe_answer (op_at (view_of m) x) (view_of m) tracked x
    ∙ ap (λ (xs : List Invariant). Ok (map entry_of xs)) (sym answer.leads)

pub next_err : (m : MapTable) (tracked : List ℕ) (p : Point) (s : Abs) (reason : Reason) →
    unsafe_reason (view_of m) tracked (invariant_at p s) ≡ Some reason → answer_at (view_of m) tracked (invariant_at p s) ≡ Err reason
next_err m tracked p s reason is =
    let x = invariant_at p s in
    ap (λ (r : Option Reason). answer_by r (op_at (view_of m) x) (view_of m) tracked x) is

-- ---- turn by turn

-- the way at a turn, as the program gets it
abbrev pub IsWay : List Invariant → ℕ → Point × Abs → Type 0
IsWay ways k way = slice_get ways k ≡ Some (invariant_of way)

pub way_of : (ways : List Invariant) (k : ℕ) (way : Point × Abs) (got : Option (Point × Abs)) → option_map invariant_of got ≡ slice_get ways k →
    got ≡ Some way → IsWay ways k way
way_of ways k way got gets is = sym gets ∙ ap (option_map invariant_of) is

pub no_way : (got : Option (Point × Abs)) (ways : List Invariant) (k : ℕ) → option_map invariant_of got ≡ slice_get ways k → got ≡ None →
    k < length ways → ⊥
no_way got ways k gets none within =
    let some : slice_get ways k ≡ Some (get_or ways k start_invariant) = slice_get-get_or ways k start_invariant within in
    let nothing : None ≡ slice_get ways k = ap (option_map invariant_of) (sym none) ∙ gets in
    absurd (cc)

contained : (ways : List Invariant) (k : ℕ) (x : Invariant) → slice_get ways k ≡ Some x → Contains (map entry_of ways) (entry_of x)
contained [] k x is = absurd (cc)
contained (y ∷ ys) zero x is = let same : y ≡ x = cc in (0, omega arith, ap entry_of same)
contained (y ∷ ys) (suc k) x is =
    let rest = contained ys k x is in
    let within : rest.0 < length (map entry_of ys) = rest.1 in
    (suc rest.0, omega arith, rest.2)

module _ (m : MapTable) (tracked : List ℕ) where
  abbrev IsCovered : Work Point AbstractState → Invariant → Type 0
  IsCovered w x = CoversAt (map_analysis m tracked) w.notes x.point x.state

  -- the first k ways are covered, and there is no more work than before
  pub record Settling (old w : Work Point AbstractState) (p : Point) (s : Abs) (ways : List Invariant) (k : ℕ) : Type 0 where
    pub holds : Holds (map_analysis m tracked) w (Only (map_analysis m tracked) p (state_of s))
    pub covered : AllWithin (λ (x : Invariant). CoversAt (map_analysis m tracked) w.notes x.point x.state) ways 0 k
    pub falls : effort (map_analysis m tracked) w ≤ effort (map_analysis m tracked) old

  pub settling_none : (w : Work Point AbstractState) (p : Point) (s : Abs) (ways : List Invariant) →
      Holds (map_analysis m tracked) w (Only (map_analysis m tracked) p (state_of s)) → Settling w w p s ways 0
  settling_none w p s ways holds = record { holds = holds; covered = AllWithin-none (IsCovered w) ways 0; falls = omega arith }

  pub way_reached : (p : Point) (s : Abs) (ways : List Invariant) (k : ℕ) (way : Point × Abs) → IsAnswer m tracked p s ways →
      IsWay ways k way →
      Reached (map_analysis m tracked) p (state_of s) → Reached (map_analysis m tracked) way.0 (state_of way.1)
  way_reached p s ways k way answer is reached =
      next reached (next_ok m tracked p s ways answer) (contained ways k (invariant_of way) is)

  module _ (laws : AnalysisLaws (map_analysis m tracked)) where
    pub settling_more : (old w new : Work Point AbstractState) (p : Point) (s : Abs) (ways : List Invariant) (k : ℕ)
        (way : Point × Abs) →
        Settling old w p s ways k → IsWay ways k way → Reached (map_analysis m tracked) way.0 (state_of way.1) →
        Added point_cmp is_state_below joined_state w new way.0 (state_of way.1) → length new.notes ≤ 65536 →
        Settling old new p s ways (k + 1)
    settling_more old w new p s ways k way so is reached added few =
        let an = map_analysis m tracked in
        let step = added_holds an laws w new (Only an p (state_of s)) way.0 (state_of way.1) so.holds added reached few in
        let less = added_falls an laws w new (Only an p (state_of s)) way.0 (state_of way.1) so.holds added reached few in
        let before = so.falls in
        record {
          holds = step.holds;
          covered = AllWithin-more (IsCovered new) ways 0 k
              (λ i d low high. step.grows (slice_index_or ways i d).point (slice_index_or ways i d).state (so.covered i d low high))
              (λ d. subst (IsCovered new) (sym (get_or_from_slice_get ways k (invariant_of way) d is)) step.covered);
          falls = omega arith;
        }

    pub settling_all : (old w : Work Point AbstractState) (p : Point) (s : Abs) (ways : List Invariant) (k : ℕ) →
        Settling old w p s ways k →
        length ways ≤ k → IsAnswer m tracked p s ways → Holds (map_analysis m tracked) w (Nothing (map_analysis m tracked))
    settling_all old w p s ways k so end answer =
        let an = map_analysis m tracked in
        let all : All (IsCovered w) ways =
        All-from_all_within (IsCovered w) ways (AllWithin-upto (IsCovered w) ways 0 k (length ways) end so.covered) in
        let read : All (λ (e : Point × AbstractState). CoversAt an w.notes e.0 e.1) (map entry_of ways) =
        All-map (λ (e : Point × AbstractState). CoversAt an w.notes e.0 e.1) entry_of ways all in
        settled_by_all an laws w p (state_of s) (map entry_of ways) so.holds (next_ok m tracked p s ways answer)
        (λ q t way. All-contains (λ (e : Point × AbstractState). CoversAt an w.notes e.0 e.1) (map entry_of ways) (q, t) read way)
