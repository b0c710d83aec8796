-- The entries of the least map that is closed and safe are a list that is closed and safe, and free of faults where the map is.
use Rattle.std.proofs.Common.{◌≡◌, ℕ, true, List, [], ◌∷◌, map, refl, ap, sym, ◌∙◌, subst, inl, inr}
use Rattle.std.specs.Prelude.{Option, Some, None}
use Rattle.std.specs.List.{Contains}
use Rattle.std.specs.Map.{keys_of}
use Rattle.std.proofs.lemmas.Cmp.{eq_by_cmp_equiv}
use Rattle.std.proofs.lemmas.Map.Keys.{IsDistinct-from_sorted}
use Rattle.std.proofs.lemmas.Map.Views.{lookup-from_Contains, Contains-from_lookup, tells_apart}
use Rattle.f8_spec.specs.BusArbitration.{Seat}
use Rattle.f8_spec.specs.declared.instructions.Op.{Op}
use Rattle.abs_domain.specs.AbstractState.{AbstractState, StateBelow}
use Rattle.abs_domain.specs.PointOrder.{point_cmp}
use Rattle.abs_domain.specs.declared.points.Point.{Point}
use Rattle.abs_domain.proofs.Orders.{order_laws}
use Rattle.abs_domain.proofs.PointOrders.{point_laws}
use Rattle.abs_step.specs.Analysis.{Analysis}
use Rattle.abs_step.specs.CartridgeAnalysis.{analysis, entry_of, FitsPoint, TellsBytes}
use Rattle.abs_step.specs.MapView.{MapView, IsViewOf}
use Rattle.abs_step.specs.ReachedStates.{state_at, CoversAt, HoldsFaultFreeStates, IsLeastMap}
use Rattle.abs_step.specs.Safety.{op_at, unsafe_reason, is_fault_free}
use Rattle.abs_step.specs.Successors.{Invariant, start_point, start_state, successors, tracked_bytes}
use Rattle.abs_step.specs.Vectors.{with_icb}
use Rattle.abs_step.specs.WaysOn.{at_way}
use Rattle.abs_step.specs.declared.ways.Way.{Way}
use Rattle.abs_step.proofs.CartridgeLaws.{IsNext, next_is}
use Rattle.abs_step.proofs.Members.{IsIn, any_in, contains_of_in, in_of_contains}
use Rattle.abs_step.proofs.SafeBelow.{at_point}
use Rattle.case_step.specs.Entries.{EntryView, start_entry}
use Rattle.case_step.specs.Cases.{at_entry, cases_at, cases_of}
use Rattle.case_step.specs.Results.{result, is_covered, is_covered_by}
use Rattle.case_step.specs.CaseLists.{op_of, cases_in, case_reason, is_case_fault_free, next_in}
use Rattle.case_step.specs.CaseLists.{IsSafelyClosedList, HasFaultFreeCases}
use Rattle.noted_cases.specs.NotedEntries.{noted_entry}
use Rattle.noted_cases.specs.NotedLaws.{HaveSame, NotedLaw}
use Rattle.noted_cases.proofs.CasesBelow.{IsCaseUnder, case_under}
use Rattle.noted_cases.proofs.LeastCounters.{least_ties}
use Rattle.noted_cases.proofs.NotedCover.{says_no_less, result_covered, start_covered}
use Rattle.noted_cases.proofs.NotedSteps.{in_mapped, untracked, after, case_safe, case_free, IsLed, led}
use Rattle.noted_cases.proofs.PartsKept.{keeps_parts}
use Rattle.noted_cases.proofs.WaysAlike.{ways_at, successors_along}

map_in : {A B : Type 0} → (f : A → B) (xs : List A) (x : A) → IsIn x xs → IsIn (f x) (map f xs)
map_in f [] x is = absurd is
map_in f (y ∷ ys) x (inl here) = inl (ap f here)
map_in f (y ∷ ys) x (inr later) = inr (map_in f ys x later)

-- ---- the entry of a note: its instruction, its cases and what they are at

module _ (m : MapView) (p : Point) (s : AbstractState) where
  op_there : op_of m (noted_entry (p, s)) ≡ op_at m (at_point p s)
  unfolding noted_entry
  op_there = refl

  cases_there : (op : Op) → op_at m (at_point p s) ≡ Some op → cases_in m (noted_entry (p, s)) ≡ cases_of op (noted_entry (p, s))
  cases_there op is = ap (λ (o : Option Op). cases_at o (noted_entry (p, s))) (op_there ∙ is)

  entry_there : (c : AbstractState) → at_entry (noted_entry (p, s)) c ≡ at_point (untracked p) c
  unfolding noted_entry
  entry_there c = refl

-- ---- a map

module _ (m : MapView) (seats : List Seat) (tracked : List ℕ) (view : IsViewOf m seats) (tells : TellsBytes m)
    (notes : List (Point × AbstractState)) (least : IsLeastMap (analysis m tracked) notes) (entries : List EntryView)
    (same : HaveSame entries (map noted_entry notes)) where
  abbrev an : Analysis Point AbstractState
  an = analysis m tracked

  abbrev IsNoted : Point → AbstractState → Type 0
  IsNoted p s = state_at an notes p ≡ Some s

  -- what the entry of a note covers some entry does
  noted_covers : (lower : EntryView) (q : Point) (t : AbstractState) → IsNoted q t → is_covered_by lower (noted_entry (q, t)) ≡ true →
      is_covered entries lower ≡ true
  noted_covers lower q t noted covers =
      let note : IsIn (q, t) notes = in_of_contains notes (q, t) (Contains-from_lookup (tells_apart point_laws.exact) q t notes noted) in
      let among : Contains entries (noted_entry (q, t)) =
      (same (noted_entry (q, t))).1 (contains_of_in _ _ (map_in noted_entry notes (q, t) note)) in
      any_in (is_covered_by lower) entries (noted_entry (q, t)) (in_of_contains entries _ among) covers

  record IsOfNote (e : EntryView) : Type 0 where
    point : Point
    state : AbstractState
    noted : IsNoted point state
    is : noted_entry (point, state) ≡ e

  of_note : (e : EntryView) → Contains entries e → IsOfNote e
  of_note e among =
      let found = in_mapped noted_entry notes e (in_of_contains (map noted_entry notes) e ((same e).0 among)) in
      record {
        point = found.0.0;
        state = found.0.1;
        noted = lookup-from_Contains (eq_by_cmp_equiv point_laws.total) found.0.0 found.0.1 notes
            (IsDistinct-from_sorted point_cmp (keys_of notes) least.closed.is_map.ascends) (contains_of_in notes found.0 found.1);
        is = found.2;
      }

  -- ---- the entry of a note

  module _ (p : Point) (s : AbstractState) (noted : IsNoted p s) where
    abbrev e : EntryView
    e = noted_entry (p, s)

    next : IsNext m tracked (at_point p s) (least.closed.safe p s noted).0
    next = next_is m tracked (at_point p s) (least.closed.safe p s noted).0 (least.closed.safe p s noted).1

    fits : FitsPoint tracked p s
    fits = least.closed.is_map.fits p s noted

    under : (c : AbstractState) → Contains (cases_in m e) c → IsCaseUnder next.op s c
    under c among =
        case_under p s fits.range (least_ties m tracked (least.reached p s noted)) next.op c
        (in_of_contains (cases_of next.op e) c
        (subst (λ (cs : List AbstractState). Contains cs c) (cases_there m p s next.op next.is) among))

    note_safe : (c : AbstractState) → Contains (cases_in m e) c → case_reason m e c ≡ None
    note_safe c among =
        subst (λ (x : Invariant). unsafe_reason m [] x ≡ None) (sym (entry_there m p s c))
        (case_safe m seats tracked view p s next.op fits next.is next.safe c (under c among))

    note_free : is_fault_free m (at_point p s) ≡ true → (c : AbstractState) → Contains (cases_in m e) c → is_case_fault_free m e c ≡ true
    note_free free c among =
        subst (λ (x : Invariant). is_fault_free m x ≡ true) (sym (entry_there m p s c))
        (case_free m seats tracked view p s next.op fits next.is next.safe c (under c among) free)

    -- what holds along a way has a note that says no more
    way_noted : (w : Way) → IsIn w (ways_at next.op m (at_point p s)) →
        CoversAt an notes (at_way (tracked_bytes tracked (after m p s next.op).registers) (after m p s next.op) w).point
        (with_icb w.icb (after m p s next.op))
    way_noted w is =
        let x : Invariant = at_way (tracked_bytes tracked (after m p s next.op).registers) (after m p s next.op) w in
        let among : IsIn x (successors next.op m tracked (at_point p s)) =
        subst (IsIn x) (sym (successors_along next.op m tracked (at_point p s)))
        (map_in (at_way (tracked_bytes tracked (after m p s next.op).registers) (after m p s next.op)) _ w is) in
        let way : Contains (least.closed.safe p s noted).0 (entry_of x) =
        subst (λ (ways : List (Point × AbstractState)). Contains ways (entry_of x)) next.same
        (contains_of_in _ _ (map_in entry_of _ x among)) in
        least.closed.closed.next p s (least.closed.safe p s noted).0 noted (least.closed.safe p s noted).1 x.point x.state way

    led_covered : (c : AbstractState) → IsCaseUnder next.op s c → (to : Invariant) → IsLed m p s next.op c to →
        is_covered entries (result next.op e c to) ≡ true
    led_covered c case to there =
        let upper = way_noted there.way there.is in
        let below : StateBelow (with_icb there.way.icb (after m p s next.op)) upper.upper = (order_laws.test _ upper.upper).0 upper.below in
        let q : Point = record {
          at = there.way.exit.at;
          ret = there.way.exit.ret;
          split = tracked_bytes tracked (after m p s next.op).registers;
        } in
        noted_covers (result next.op e c to) q upper.upper upper.noted
        (result_covered p s next.op c case to upper.upper
        (says_no_less m tells tracked p s fits next.op next.is c case to there upper.upper below)
        (keeps_parts m p s next.op c case there.way.icb upper.upper below) q there.at there.ret
        (least.closed.is_map.fits q upper.upper upper.noted).scratchpad)

    note_closed : (op : Op) → op_of m e ≡ Some op → (c : AbstractState) → Contains (cases_in m e) c → (to : Invariant) →
        Contains (next_in op m e c) to → is_covered entries (result op e c to) ≡ true
    note_closed op is c among to leads =
        let one : Some next.op ≡ Some op = sym next.is ∙ sym (op_there m p s) ∙ is in
        let equal : next.op ≡ op = cc in
        let case = under c among in
        let there : Contains (successors next.op m [] (at_point (untracked p) c)) to =
        subst (λ (x : Invariant). Contains (successors next.op m [] x) to) (entry_there m p s c)
        (subst (λ (o : Op). Contains (next_in o m e c) to) (sym equal) leads) in
        subst (λ (o : Op). is_covered entries (result o e c to) ≡ true) equal
        (led_covered c case to
        (led m seats tracked view p s next.op fits next.is next.safe c case to (in_of_contains _ to there)))

  -- ---- the list

  abbrev IsClosedEntry : EntryView → Type 0
  IsClosedEntry e = (op : Op) → op_of m e ≡ Some op → (c : AbstractState) → Contains (cases_in m e) c → (to : Invariant) →
      Contains (next_in op m e c) to → is_covered entries (result op e c to) ≡ true

  abbrev IsSafeEntry : EntryView → Type 0
  IsSafeEntry e = (c : AbstractState) → Contains (cases_in m e) c → case_reason m e c ≡ None

  abbrev IsFreeEntry : EntryView → Type 0
  IsFreeEntry e = (c : AbstractState) → Contains (cases_in m e) c → is_case_fault_free m e c ≡ true

  start_is : is_covered entries start_entry ≡ true
  start_is =
      let start = least.closed.closed.start in
      noted_covers start_entry start_point start.upper start.noted
      (start_covered start.upper ((order_laws.test start_state start.upper).0 start.below))

  pub list_closed : IsSafelyClosedList m entries
  list_closed = record {
    closed = record {
      start = start_is;
      next = λ e among op is c one safe to leads.
          let note = of_note e among in
          subst IsClosedEntry note.is (note_closed note.point note.state note.noted) op is c one to leads;
    };
    safe = λ e among c one.
        let note = of_note e among in
        subst IsSafeEntry note.is (note_safe note.point note.state note.noted) c one;
  }

  pub list_free : HoldsFaultFreeStates an notes → HasFaultFreeCases m entries
  list_free free e among c one =
      let note = of_note e among in
      subst IsFreeEntry note.is (note_free note.point note.state note.noted (free note.point note.state note.noted)) c one

pub noted_law : NotedLaw
noted_law = record {
  closed = λ m seats tracked notes entries view tells h. list_closed m seats tracked view tells notes h.least entries h.same;
  fault_free = λ m seats tracked notes entries view tells h free.
      list_free m seats tracked view tells notes h.least entries h.same free;
}
