-- The first failure of a list, as it is looked for in its order: none so far, and then the one that is met, or none to the end.
use Rattle.std.proofs.Common.{◌≡◌, ◌<◌, ◌≤◌, ◌+◌, ℕ, zero, suc, Bool, true, false, ◌&&◌, List, [], ◌∷◌, length, map, drop, take, get_or}
use Rattle.std.proofs.Common.{refl, ap, sym, ◌∙◌, add-one, drop-cons, take_all, arith}
use Rattle.std.specs.Prelude.{Option, Some, None, Result, Ok, Err, OnOk, is_ok, is_some, slice_get, if◌then◌else◌}
use Rattle.std.specs.List.{list_all}
use Rattle.std.specs.Option.{option_or}
use Rattle.std.proofs.lemmas.List.{drop_all}
use Rattle.std.proofs.lemmas.List.Folds.{list_all-map, list_all_more}
use Rattle.f8_spec.specs.declared.instructions.Op.{Op}
use Rattle.abs_domain.specs.AbstractState.{AbstractState}
use Rattle.abs_domain.specs.StateView.{state_of}
use Rattle.abs_domain.specs.declared.points.Point.{Point}
use Rattle.abs_domain.specs.declared.state.Abs.{Abs}
use Rattle.abs_step.specs.MapView.{MapView}
use Rattle.abs_step.specs.Successors.{Invariant, start_point}
use Rattle.case_step.specs.CaseLists.{case_failure, cases_failure, entry_failure, first_failure, first_open, is_entry_fault_free, judged}
use Rattle.case_step.specs.CaseLists.{cases_in, op_of, safe_answer}
use Rattle.case_step.specs.Cases.{cases_at}
use Rattle.case_step.specs.Entries.{EntryView, start_entry}
use Rattle.case_step.specs.EntryViews.{entry_view, states_of}
use Rattle.case_step.specs.Results.{result, is_covered}
use Rattle.case_step.specs.declared.answer.CasesAnswer.{CasesAnswer}
use Rattle.case_step.specs.declared.answer.CasesAnswer.TheVariants.{NotClosed}
use Rattle.case_step.specs.declared.entry.Entry.{Entry}

-- ---- the points behind a case

-- there is a point at each place
pub point_missing : (ways : List Invariant) (place : ℕ) → place < length ways → None ≡ slice_get ways place → ⊥
point_missing [] place inside none = absurd (omega arith)
point_missing (x ∷ ways) zero inside none = cc
point_missing (x ∷ ways) (suc place) inside none = point_missing ways place (omega arith) none

module _ (entries : List EntryView) (op : Op) (e : EntryView) (s : AbstractState) where
  open_here : (ways : List Invariant) (place : ℕ) (to : Invariant) → Some to ≡ slice_get ways place →
      first_open entries op e s (drop place ways)
      ≡ (if is_covered entries (result op e s to) then first_open entries op e s (drop (suc place) ways) else Some to.point)
  open_here [] place to is = absurd (cc)
  open_here (x ∷ ways) zero to is = let same : to ≡ x = cc in rw same refl
  open_here (x ∷ ways) (suc place) to is = open_here ways place to is

  pub open_found : (ways : List Invariant) (place : ℕ) (to : Invariant) (whole : Option Point) →
      whole ≡ first_open entries op e s (drop place ways) → Some to ≡ slice_get ways place →
      is_covered entries (result op e s to) ≡ false → Some to.point ≡ whole
  open_found ways place to whole so_far is uncovered = rw (so_far, open_here ways place to is, uncovered) refl

  pub open_later : (ways : List Invariant) (place : ℕ) (to : Invariant) (whole : Option Point) →
      whole ≡ first_open entries op e s (drop place ways) → Some to ≡ slice_get ways place →
      is_covered entries (result op e s to) ≡ true → whole ≡ first_open entries op e s (drop (place + 1) ways)
  open_later ways place to whole so_far is covered = rw (so_far, open_here ways place to is, covered, add-one) refl

  pub open_nowhere : (ways : List Invariant) (place : ℕ) (whole : Option Point) →
      whole ≡ first_open entries op e s (drop place ways) → length ways ≤ place → None ≡ whole
  open_nowhere ways place whole so_far past = rw (so_far, drop_all place ways past) refl

-- ---- the cases of an entry, and the entries

failed_or : (failure later : Option CasesAnswer) → is_some failure ≡ true → failure ≡ option_or failure later
failed_or None later fails = absurd (cc)
failed_or (Some x) later fails = refl

passed_or : (failure later : Option CasesAnswer) → is_some failure ≡ false → option_or failure later ≡ later
passed_or None later passes = refl
passed_or (Some x) later passes = absurd (cc)

module _ (m : MapView) (entries : List EntryView) where
  module _ (place : ℕ) (e : EntryView) where
    failure_here : (cases : List Abs) (i : ℕ) (x : Abs) (failure : Option CasesAnswer) → i < length cases → x ≡ get_or cases i x →
        failure ≡ case_failure m entries place e (state_of x) →
        cases_failure m entries place e (states_of (drop i cases))
        ≡ option_or failure (cases_failure m entries place e (states_of (drop (i + 1) cases)))
    failure_here cases i x failure inside is tells = rw (drop-cons cases i x inside, ← is, ← tells, add-one) refl

    pub failure_found : (cases : List Abs) (i : ℕ) (x : Abs) (failure whole : Option CasesAnswer) →
        whole ≡ cases_failure m entries place e (states_of (drop i cases)) → i < length cases → x ≡ get_or cases i x →
        failure ≡ case_failure m entries place e (state_of x) → is_some failure ≡ true → failure ≡ whole
    failure_found cases i x failure whole so_far inside is tells fails =
        failed_or failure _ fails ∙ sym (so_far ∙ failure_here cases i x failure inside is tells)

    pub failure_later : (cases : List Abs) (i : ℕ) (x : Abs) (failure whole : Option CasesAnswer) →
        whole ≡ cases_failure m entries place e (states_of (drop i cases)) → i < length cases → x ≡ get_or cases i x →
        failure ≡ case_failure m entries place e (state_of x) → is_some failure ≡ false →
        whole ≡ cases_failure m entries place e (states_of (drop (i + 1) cases))
    failure_later cases i x failure whole so_far inside is tells passes =
        so_far ∙ failure_here cases i x failure inside is tells ∙ passed_or failure _ passes

    pub failure_nowhere : (cases : List Abs) (i : ℕ) (whole : Option CasesAnswer) →
        whole ≡ cases_failure m entries place e (states_of (drop i cases)) → length cases ≤ i → None ≡ whole
    failure_nowhere cases i whole so_far past = rw (so_far, drop_all i cases past) refl

  -- The entries before a place have no failure, and each case of them is free of faults, or not.
  pub record AreJudged (xs : List Entry) (place : ℕ) (are_free : Bool) : Type 0 where
    pub are : map entry_view xs ≡ entries
    pub start : is_covered entries start_entry ≡ true
    pub failure : first_failure m entries 0 entries ≡ first_failure m entries place (map entry_view (drop place xs))
    pub free : are_free ≡ list_all (λ x. is_entry_fault_free m (entry_view x)) (take place xs)

  pub none_judged : (xs : List Entry) → map entry_view xs ≡ entries → is_covered entries start_entry ≡ true → AreJudged xs 0 true
  none_judged xs are start = record { are = are; start = start; failure = rw are refl; free = refl }

  entry_here : (xs : List Entry) (place : ℕ) (x : Entry) (failure : Option CasesAnswer) → place < length xs → x ≡ get_or xs place x →
      failure ≡ entry_failure m entries place (entry_view x) →
      first_failure m entries place (map entry_view (drop place xs))
      ≡ option_or failure (first_failure m entries (place + 1) (map entry_view (drop (place + 1) xs)))
  entry_here xs place x failure inside is tells = rw (drop-cons xs place x inside, ← is, ← tells, add-one) refl

  -- the place's entry fails
  pub failure_judged : (xs : List Entry) (place : ℕ) (are_free : Bool) (x : Entry) (failure : CasesAnswer) → AreJudged xs place are_free →
      place < length xs → x ≡ get_or xs place x → Some failure ≡ entry_failure m entries place (entry_view x) → failure ≡ judged m entries
  unfolding judged
  failure_judged xs place are_free x failure so_far inside is tells =
      rw (so_far.start, so_far.failure, entry_here xs place x (Some failure) inside is tells) refl

  -- it doesn't
  pub one_more_judged : (xs : List Entry) (place : ℕ) (are_free also_free : Bool) (x : Entry) → AreJudged xs place are_free →
      place < length xs → x ≡ get_or xs place x → None ≡ entry_failure m entries place (entry_view x) →
      also_free ≡ (are_free && is_entry_fault_free m (entry_view x)) → AreJudged xs (place + 1) also_free
  one_more_judged xs place are_free also_free x so_far inside is tells free = record {
    are = so_far.are;
    start = so_far.start;
    failure = so_far.failure ∙ entry_here xs place x None inside is tells;
    free = rw (free, so_far.free, list_all_more (λ x. is_entry_fault_free m (entry_view x)) xs place x inside, ← is) refl;
  }

  -- all entries have none
  pub all_judged : (xs : List Entry) (place : ℕ) (are_free : Bool) → AreJudged xs place are_free → length xs ≤ place →
      safe_answer are_free ≡ judged m entries
  unfolding judged
  all_judged xs place are_free so_far past =
      let free : are_free ≡ list_all (is_entry_fault_free m) entries =
      so_far.free ∙ ap (λ done. list_all (λ x. is_entry_fault_free m (entry_view x)) done) (take_all place xs past)
      ∙ sym (list_all-map (is_entry_fault_free m) entry_view xs) ∙ ap (λ views. list_all (is_entry_fault_free m) views) so_far.are in
      rw (so_far.start, so_far.failure, drop_all place xs past, free) refl

  pub start_judged : is_covered entries start_entry ≡ false → NotClosed None start_point ≡ judged m entries
  unfolding judged
  start_judged uncovered = rw uncovered refl

  -- an entry's cases, where they could be made
  pub made_cases : {T E : Type 0} (made : Result T E) (e : EntryView) (op : Option Op) (cases : List AbstractState) → is_ok made ≡ true →
      OnOk made (cases ≡ cases_at op e) → op ≡ op_of m e → cases ≡ cases_in m e
  made_cases (Ok x) e op cases ok made is = made ∙ ap (λ found. cases_at found e) is
  made_cases (Err x) e op cases ok made is = absurd (cc)
