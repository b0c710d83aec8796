-- Entries in the order of their addresses: one more at the end keeps it, and those at one address stand together, where one searches.
use Rattle.std.proofs.Common.{◌≡◌, ◌<◌, ◌≤◌, ◌+◌, ◌-◌, ℕ, zero, suc, Bool, true, false, cond, ltb, eqb, ◌||◌, List, [], ◌∷◌, ◌++◌, length}
use Rattle.std.proofs.Common.{map, take}
use Rattle.std.proofs.Common.{drop, get_or, refl, ap, sym, ◌∙◌, one-add, take_all, length-drop, arith}
use Rattle.std.specs.List.{AllByRecursion, AllWithin, list_any, prefix_len}
use Rattle.std.specs.List.Sorted.{IsNonDecreasingBy, IsPartitionPoint, IsPartitionedBy}
use Rattle.std.proofs.lemmas.Bool.{eqb-false, eqb-true, ltb-true, ltb-false, ne_eqb}
use Rattle.std.proofs.lemmas.List.Sorted.{IsPartitionedBy-ltb}
use Rattle.f8_spec.specs.declared.instructions.Op.{Op}
use Rattle.abs_domain.specs.AbstractState.{AbstractState}
use Rattle.abs_step.specs.Successors.{Invariant}
use Rattle.case_step.specs.Ascending.{AreBefore, Ascends}
use Rattle.case_step.specs.Entries.{EntryView}
use Rattle.case_step.specs.EntryViews.{entry_view}
use Rattle.case_step.specs.Results.{result, is_covered, is_covered_by}
use Rattle.case_step.specs.declared.entry.Entry.{Entry}

-- ---- one more at the end

later_push : (at : ℕ) (es : List EntryView) (e : EntryView) → AllByRecursion (λ later. at ≤ later.at) es → at ≤ e.at →
    AllByRecursion (λ later. at ≤ later.at) (es ++ e ∷ [])
later_push at [] e later one = (one, tt)
later_push at (x ∷ es) e later one = (later.0, later_push at es e later.1 one)

ascends_push : (es : List EntryView) (e : EntryView) → Ascends es → AreBefore e.at es → Ascends (es ++ e ∷ [])
ascends_push [] e ascends before = (tt, tt)
ascends_push (x ∷ es) e ascends before = (later_push x.at es e ascends.0 before.0, ascends_push es e ascends.1 before.1)

map_push : (xs : List Entry) (e : Entry) → map entry_view (xs ++ e ∷ []) ≡ map entry_view xs ++ entry_view e ∷ []
map_push [] e = refl
map_push (x ∷ xs) e = ap (λ views. entry_view x ∷ views) (map_push xs e)

pub pushed_ascends : (xs ys : List Entry) (e : Entry) (views : List EntryView) → ys ≡ xs ++ e ∷ [] → map entry_view xs ≡ views →
    Ascends (map entry_view xs) → AreBefore e.at views → Ascends (map entry_view ys)
pushed_ascends xs ys e views added are ascends before =
    rw (added, map_push xs e) (ascends_push (map entry_view xs) (entry_view e) ascends (rw are before))

-- ---- by places

later_at : (at : ℕ) (xs : List Entry) (j : ℕ) (d : Entry) → AllByRecursion (λ later. at ≤ later.at) (map entry_view xs) → j < length xs →
    at ≤ (get_or xs j d).at
later_at at [] j d later inside = absurd (omega arith)
later_at at (x ∷ xs) zero d later inside = later.0
later_at at (x ∷ xs) (suc j) d later inside = later_at at xs j d later.1 (omega arith)

in_order : (xs : List Entry) → Ascends (map entry_view xs) → IsNonDecreasingBy (λ e. e.at) xs
in_order [] ascends i j d below inside = absurd (omega arith)
in_order (x ∷ xs) ascends zero zero d below inside = omega arith
in_order (x ∷ xs) ascends zero (suc j) d below inside = later_at x.at xs j d ascends.0 (omega arith)
in_order (x ∷ xs) ascends (suc i) zero d below inside = absurd (omega arith)
in_order (x ∷ xs) ascends (suc i) (suc j) d below inside = in_order xs ascends.1 i j d (omega arith) (omega arith)

-- those before an address stand before the others
pub is_partitioned : (xs : List Entry) (at : ℕ) → Ascends (map entry_view xs) → IsPartitionedBy (λ e. ltb e.at at) xs
is_partitioned xs at ascends = IsPartitionedBy-ltb (λ e. e.at) xs at (in_order xs ascends)

-- ---- a test that no entry passes but at one address

further_on : (at other : ℕ) → at ≤ other → eqb other at ≡ false → at < other
further_on at other below apart = by (eqb-false other at apart)
  where
    by : (other ≡ at → ⊥) → at < other
    by apart = omega (arith, apart)

later_than : (at : ℕ) (x : Entry) (views : List EntryView) → eqb x.at at ≡ true → AllByRecursion (λ later. x.at ≤ later.at) views →
    AllByRecursion (λ later. at ≤ later.at) views
later_than at x views here later = rw (← eqb-true x.at at here) later

all_from : (at : ℕ) (xs : List Entry) → AllWithin (λ e. ltb e.at at ≡ false) xs 0 (length xs) →
    AllByRecursion (λ e. at ≤ e.at) (map entry_view xs)
all_from at [] from = tt
all_from at (x ∷ xs) from = (
  ltb-false x.at at (from 0 x (omega arith) (omega arith)),
  all_from at xs (λ k d low high. from (suc k) d (omega arith) (omega arith)),
)

module _ (at : ℕ) (test : Entry → Bool) (elsewhere : (e : Entry) → eqb e.at at ≡ false → test e ≡ false) where
  none_behind : (from : ℕ) (xs : List Entry) → at < from → AllByRecursion (λ later. from ≤ later.at) (map entry_view xs) →
      list_any test xs ≡ false
  none_behind from [] behind later = refl
  none_behind from (x ∷ xs) behind later =
      let fails : test x ≡ false = elsewhere x (ne_eqb x.at at (λ same. omega (arith, later.0, same))) in
      rw fails (none_behind from xs behind later.1)

  -- from its first entry on, those at the address stand first
  run_passes : (xs : List Entry) → Ascends (map entry_view xs) → AllByRecursion (λ e. at ≤ e.at) (map entry_view xs) →
      list_any test (take (prefix_len (λ e. eqb e.at at) xs) xs) ≡ list_any test xs
  run_passes [] ascends from = refl
  run_passes (x ∷ xs) ascends from =
      by (eqb x.at at) refl (λ here. run_passes xs ascends.1 (later_than at x (map entry_view xs) here ascends.0))
    where
      by : (b : Bool) → eqb x.at at ≡ b →
          (eqb x.at at ≡ true → list_any test (take (prefix_len (λ e. eqb e.at at) xs) xs) ≡ list_any test xs) →
          list_any test (take (cond b (1 + prefix_len (λ e. eqb e.at at) xs) 0) (x ∷ xs)) ≡ (test x || list_any test xs)
      by true here others = rw one-add (ap (λ found. test x || found) (others here))
      by false apart others =
          let fails : test x ≡ false = elsewhere x apart in
          let further : at < x.at = further_on at x.at from.0 apart in
          rw fails (sym (none_behind x.at xs further ascends.0))

  -- those before the address pass over, and those from there on are searched
  front_passes : (first : ℕ) (xs : List Entry) → Ascends (map entry_view xs) → AllWithin (λ e. ltb e.at at ≡ true) xs 0 first →
      AllWithin (λ e. ltb e.at at ≡ false) xs first (length xs) →
      list_any test (take (prefix_len (λ e. eqb e.at at) (drop first xs)) (drop first xs)) ≡ list_any test xs
  front_passes zero xs ascends front back = run_passes xs ascends (all_from at xs back)
  front_passes (suc first) [] ascends front back = refl
  front_passes (suc first) (x ∷ xs) ascends front back =
      let before : x.at < at = ltb-true x.at at (front 0 x (omega arith) (omega arith)) in
      let fails : test x ≡ false = elsewhere x (ne_eqb x.at at (λ same. omega (arith, before, same))) in
      rw fails (front_passes first xs ascends.1 (λ k d low high. front (suc k) d (omega arith) (omega arith))
      (λ k d low high. back (suc k) d (omega arith) (omega arith)))

-- ---- covering

at_another : (lower upper : EntryView) (at : ℕ) → lower.at ≡ at → eqb upper.at at ≡ false → is_covered_by lower upper ≡ false
unfolding is_covered_by
at_another lower upper at is apart =
    let other : eqb lower.at upper.at ≡ false = ne_eqb lower.at upper.at (λ same. eqb-false upper.at at apart (sym same ∙ is)) in
    rw other refl

pub any_mapped : (test : EntryView → Bool) (xs : List Entry) → list_any test (map entry_view xs) ≡ list_any (λ e. test (entry_view e)) xs
any_mapped test [] = refl
any_mapped test (x ∷ xs) = ap (λ found. test (entry_view x) || found) (any_mapped test xs)

-- What some entry of a list covers, one of those does that are searched: the list as it is read twice, and then from the first entry on that
-- isn't before the address.
pub search_covers : (lower : EntryView) (at first : ℕ) (own xs ys rest : List Entry) (views : List EntryView) → lower.at ≡ at →
    xs ≡ own → ys ≡ own → rest ≡ take (length ys - first) (drop first ys) → map entry_view own ≡ views → Ascends (map entry_view own) →
    IsPartitionPoint (λ e. ltb e.at at ≡ true) (λ e. ltb e.at at ≡ false) xs first →
    list_any (λ e. is_covered_by lower (entry_view e)) (take (prefix_len (λ e. eqb e.at at) rest) rest) ≡ is_covered views lower
search_covers lower at first own xs ys rest views is read again onward are ascends parted =
    let whole : rest ≡ drop first own = onward ∙ rw again (take_all (length own - first) (drop first own) (simp length-drop (omega arith))) in
    rw whole (front_passes at (λ e. is_covered_by lower (entry_view e)) (λ e apart. at_another lower (entry_view e) at is apart) first own ascends
    (rw read at parted.0) (rw read at parted.1)
    ∙ sym (any_mapped (is_covered_by lower) own) ∙ ap (λ entries. is_covered entries lower) are)

-- a result is at its point's address
pub result-at : (op : Op) (e : EntryView) (s : AbstractState) (to : Invariant) → (result op e s to).at ≡ to.point.at
unfolding result
result-at op e s to = refl
