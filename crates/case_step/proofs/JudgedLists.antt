-- What is found of a list of entries is what the list is.
use Rattle.std.proofs.Common.{◌≡◌, ℕ, ◌+◌, Bool, true, false, List, [], ◌∷◌, refl, sym, subst, inl, inr, ◌↔◌}
use Rattle.std.specs.Prelude.{Option, Some, None, if◌then◌else◌, unwrap_or}
use Rattle.std.specs.List.{Contains, list_all}
use Rattle.std.specs.Option.{option_or}
use Rattle.std.proofs.lemmas.Bool.{and_parts, both_ways, false_from_ne_true}
use Rattle.f8_spec.specs.declared.instructions.Op.{Op}
use Rattle.abs_domain.specs.AbstractState.{AbstractState}
use Rattle.abs_domain.specs.declared.points.Point.{Point}
use Rattle.abs_domain.specs.declared.reason.Reason.{Reason}
use Rattle.abs_step.specs.MapView.{MapView}
use Rattle.abs_step.specs.Successors.{Invariant, start_point}
use Rattle.abs_step.proofs.Members.{IsIn, in_of_contains, contains_of_in}
use Rattle.case_step.specs.Entries.{EntryView, start_entry}
use Rattle.case_step.specs.Results.{result, is_covered}
use Rattle.case_step.specs.CaseLists.{op_of, cases_in, case_reason, is_case_fault_free, next_in}
use Rattle.case_step.specs.CaseLists.{HasFaultFreeCases, IsSafelyClosedList, first_open, failure_by, open_at, case_failure, cases_failure}
use Rattle.case_step.specs.CaseLists.{entry_failure, first_failure, is_entry_fault_free, safe_answer, judged}
use Rattle.case_step.specs.CaseLaws.{JudgedLaw}
use Rattle.case_step.specs.declared.answer.CasesAnswer.{CasesAnswer}
use Rattle.case_step.specs.declared.answer.CasesAnswer.TheVariants.{Whole, Agreed, NotClosed, Unsafe}

-- ---- failures

abbrev is_failure : CasesAnswer → Bool
is_failure Whole = false
is_failure Agreed = false
is_failure (NotClosed from to) = true
is_failure (Unsafe entry reason) = true

abbrev MayFail : Option CasesAnswer → Type 0
MayFail None = Unit {0}
MayFail (Some answer) = is_failure answer ≡ true

failure_fails : (reason : Option Reason) (place : ℕ) (to : Option Point) → MayFail (failure_by reason place to)
failure_fails None place None = tt
failure_fails None place (Some to) = refl
failure_fails (Some reason) place to = refl

either_fails : (a b : Option CasesAnswer) → MayFail a → MayFail b → MayFail (option_or a b)
either_fails None b p q = q
either_fails (Some answer) b p q = p

-- one of two is there, or neither
neither : (a b : Option CasesAnswer) → option_or a b ≡ None → (a ≡ None) × (b ≡ None)
neither None b none = (refl, none)
neither (Some answer) b none = absurd (cc)

-- an answer that is no failure
whole_answer : (covered : Bool) (failure : Option CasesAnswer) (free : Bool) → MayFail failure →
    (if covered then unwrap_or failure (safe_answer free) else NotClosed None start_point) ≡ Whole →
    (covered ≡ true) × (failure ≡ None) × (free ≡ true)
whole_answer false failure free fails is = absurd (cc)
whole_answer true None true fails is = (refl, refl, refl)
whole_answer true None false fails is = absurd (cc)
whole_answer true (Some answer) free fails is = absurd (cc)

agreed_answer : (covered : Bool) (failure : Option CasesAnswer) (free : Bool) → MayFail failure →
    (if covered then unwrap_or failure (safe_answer free) else NotClosed None start_point) ≡ Agreed →
    (covered ≡ true) × (failure ≡ None) × (free ≡ false)
agreed_answer false failure free fails is = absurd (cc)
agreed_answer true None true fails is = absurd (cc)
agreed_answer true None false fails is = (refl, refl, refl)
agreed_answer true (Some answer) free fails is = absurd (cc)

-- ---- tests of all of a list

module _ {A : Type 0} (test : A → Bool) where
  all_pass : (xs : List A) → list_all test xs ≡ true → (x : A) → IsIn x xs → test x ≡ true
  all_pass [] all x is = absurd is
  all_pass (y ∷ ys) all x (inl here) = let parts = and_parts (test y) (list_all test ys) all in rw (sym here) parts.0
  all_pass (y ∷ ys) all x (inr later) = all_pass ys (and_parts (test y) (list_all test ys) all).1 x later

  pass_all : (xs : List A) → ((x : A) → IsIn x xs → test x ≡ true) → list_all test xs ≡ true
  pass_all [] each = refl
  pass_all (y ∷ ys) each = rw (each y (inl refl)) (pass_all ys (λ x later. each x (inr later)))

-- ---- cases

module _ (m : MapView) (entries : List EntryView) where
  -- all that holds next is covered
  abbrev AreCovered : Op → EntryView → AbstractState → List Invariant → Type 0
  AreCovered op e s ways = (to : Invariant) → IsIn to ways → is_covered entries (result op e s to) ≡ true

  none_open : (op : Op) (e : EntryView) (s : AbstractState) (ways : List Invariant) → first_open entries op e s ways ≡ None →
      AreCovered op e s ways
  none_open op e s [] none to is = absurd is
  none_open op e s (way ∷ ways) none to is = by (is_covered entries (result op e s way)) refl none is (none_open op e s ways)
    where
      by : (b : Bool) → is_covered entries (result op e s way) ≡ b →
          (if b then first_open entries op e s ways else Some way.point) ≡ None → IsIn to (way ∷ ways) →
          (first_open entries op e s ways ≡ None → AreCovered op e s ways) → is_covered entries (result op e s to) ≡ true
      by true covered rest (inl here) later = rw (sym here) covered
      by true covered rest (inr among) later = later rest to among
      by false covered rest among later = absurd (cc)

  open_none : (op : Op) (e : EntryView) (s : AbstractState) (ways : List Invariant) → AreCovered op e s ways →
      first_open entries op e s ways ≡ None
  open_none op e s [] all = refl
  open_none op e s (way ∷ ways) all = rw (all way (inl refl)) (open_none op e s ways (λ to later. all to (inr later)))

  -- a case that is safe, and leads only to what is covered
  record IsClosedCase (e : EntryView) (s : AbstractState) : Type 0 where
    safe : case_reason m e s ≡ None
    covered : (op : Op) → op_of m e ≡ Some op → AreCovered op e s (next_in op m e s)

  no_failure : (reason : Option Reason) (place : ℕ) (to : Option Point) → failure_by reason place to ≡ None → (reason ≡ None) × (to ≡ None)
  no_failure None place None none = (refl, refl)
  no_failure None place (Some to) none = absurd (cc)
  no_failure (Some reason) place to none = absurd (cc)

  covered_where : (o : Option Op) (e : EntryView) (s : AbstractState) → open_at o m entries e s ≡ None → (op : Op) → o ≡ Some op →
      AreCovered op e s (next_in op m e s)
  covered_where None e s none op is = absurd (cc)
  covered_where (Some other) e s none op is =
      let same : other ≡ op = cc in
      subst (λ (p : Op). AreCovered p e s (next_in p m e s)) same (none_open other e s (next_in other m e s) none)

  where_covered : (o : Option Op) (e : EntryView) (s : AbstractState) → ((op : Op) → o ≡ Some op → AreCovered op e s (next_in op m e s)) →
      open_at o m entries e s ≡ None
  where_covered None e s each = refl
  where_covered (Some op) e s each = open_none op e s (next_in op m e s) (each op refl)

  closed_case : (place : ℕ) (e : EntryView) (s : AbstractState) → case_failure m entries place e s ≡ None → IsClosedCase e s
  closed_case place e s none =
      let both = no_failure (case_reason m e s) place (open_at (op_of m e) m entries e s) none in
      record { safe = both.0; covered = covered_where (op_of m e) e s both.1 }

  case_closed : (place : ℕ) (e : EntryView) (s : AbstractState) → IsClosedCase e s → case_failure m entries place e s ≡ None
  case_closed place e s h = rw (h.safe, where_covered (op_of m e) e s h.covered) refl

  closed_cases : (place : ℕ) (e : EntryView) (cases : List AbstractState) → cases_failure m entries place e cases ≡ None →
      (s : AbstractState) → IsIn s cases → IsClosedCase e s
  closed_cases place e [] none s is = absurd is
  closed_cases place e (t ∷ cases) none s (inl here) =
      subst (λ (z : AbstractState). IsClosedCase e z) here
      (closed_case place e t (neither (case_failure m entries place e t) (cases_failure m entries place e cases) none).0)
  closed_cases place e (t ∷ cases) none s (inr later) =
      closed_cases place e cases (neither (case_failure m entries place e t) (cases_failure m entries place e cases) none).1 s later

  cases_closed : (place : ℕ) (e : EntryView) (cases : List AbstractState) → ((s : AbstractState) → IsIn s cases → IsClosedCase e s) →
      cases_failure m entries place e cases ≡ None
  cases_closed place e [] each = refl
  cases_closed place e (s ∷ cases) each =
      rw (case_closed place e s (each s (inl refl))) (cases_closed place e cases (λ t later. each t (inr later)))

  -- ---- entries

  abbrev HasClosedCases : List EntryView → Type 0
  HasClosedCases es = (e : EntryView) → IsIn e es → (s : AbstractState) → IsIn s (cases_in m e) → IsClosedCase e s

  closed_entries : (place : ℕ) (es : List EntryView) → first_failure m entries place es ≡ None → HasClosedCases es
  closed_entries place [] none e is = absurd is
  closed_entries place (f ∷ es) none e (inl here) =
      subst (λ (g : EntryView). (s : AbstractState) → IsIn s (cases_in m g) → IsClosedCase g s) here
      (closed_cases place f (cases_in m f) (neither (entry_failure m entries place f) (first_failure m entries (place + 1) es) none).0)
  closed_entries place (f ∷ es) none e (inr later) =
      closed_entries (place + 1) es (neither (entry_failure m entries place f) (first_failure m entries (place + 1) es) none).1 e later

  entries_closed : (place : ℕ) (es : List EntryView) → HasClosedCases es → first_failure m entries place es ≡ None
  entries_closed place [] each = refl
  entries_closed place (e ∷ es) each =
      rw (cases_closed place e (cases_in m e) (each e (inl refl))) (entries_closed (place + 1) es (λ f later. each f (inr later)))

  -- what is found first is a failure
  cases_fail : (place : ℕ) (e : EntryView) (cases : List AbstractState) → MayFail (cases_failure m entries place e cases)
  cases_fail place e [] = tt
  cases_fail place e (s ∷ cases) =
      either_fails (case_failure m entries place e s) (cases_failure m entries place e cases)
      (failure_fails (case_reason m e s) place (open_at (op_of m e) m entries e s)) (cases_fail place e cases)

  first_fails : (place : ℕ) (es : List EntryView) → MayFail (first_failure m entries place es)
  first_fails place [] = tt
  first_fails place (e ∷ es) =
      either_fails (entry_failure m entries place e) (first_failure m entries (place + 1) es)
      (cases_fail place e (cases_in m e)) (first_fails (place + 1) es)

  -- ---- the list

  closed_list : is_covered entries start_entry ≡ true → first_failure m entries 0 entries ≡ None → IsSafelyClosedList m entries
  closed_list start none =
      let each = closed_entries 0 entries none in
      let case_at : (e : EntryView) → Contains entries e → (s : AbstractState) → Contains (cases_in m e) s → IsClosedCase e s =
      λ e among s one. each e (in_of_contains entries e among) s (in_of_contains (cases_in m e) s one) in
      record {
        closed = record {
          start = start;
          next = λ e among op is s one safe to next.
              (case_at e among s one).covered op is to (in_of_contains (next_in op m e s) to next);
        };
        safe = λ e among s one. (case_at e among s one).safe;
      }

  list_closed : IsSafelyClosedList m entries → first_failure m entries 0 entries ≡ None
  list_closed h = entries_closed 0 entries (λ e is s one.
      let among = contains_of_in entries e is in
      let case = contains_of_in (cases_in m e) s one in
      let safe = h.safe e among s case in
      record {
        safe = safe;
        covered = λ op known to next. h.closed.next e among op known s case safe to (contains_of_in (next_in op m e s) to next);
      })

  free_list : list_all (is_entry_fault_free m) entries ≡ true → HasFaultFreeCases m entries
  free_list free e among s one =
      all_pass (is_case_fault_free m e) (cases_in m e)
      (all_pass (is_entry_fault_free m) entries free e (in_of_contains entries e among)) s (in_of_contains (cases_in m e) s one)

  list_free : HasFaultFreeCases m entries → list_all (is_entry_fault_free m) entries ≡ true
  list_free free = pass_all (is_entry_fault_free m) entries (λ e is. pass_all (is_case_fault_free m e) (cases_in m e)
      (λ s one. free e (contains_of_in entries e is) s (contains_of_in (cases_in m e) s one)))

  not_free : (HasFaultFreeCases m entries → ⊥) → list_all (is_entry_fault_free m) entries ≡ false
  not_free faulty = false_from_ne_true (list_all (is_entry_fault_free m) entries) (λ free. faulty (free_list free))

  whole_list : (judged m entries ≡ Whole) ↔ (IsSafelyClosedList m entries × HasFaultFreeCases m entries)
  unfolding judged
  whole_list = (
    λ is.
        let parts = whole_answer (is_covered entries start_entry) (first_failure m entries 0 entries)
        (list_all (is_entry_fault_free m) entries) (first_fails 0 entries) is in
        (closed_list parts.0 parts.1, free_list parts.2),
    λ h. rw (h.0.closed.start, list_closed h.0, list_free h.1) refl,
  )

  agreed_list : (judged m entries ≡ Agreed) ↔ (IsSafelyClosedList m entries × (HasFaultFreeCases m entries → ⊥))
  unfolding judged
  agreed_list = (
    λ is.
        let parts = agreed_answer (is_covered entries start_entry) (first_failure m entries 0 entries)
        (list_all (is_entry_fault_free m) entries) (first_fails 0 entries) is in
        (closed_list parts.0 parts.1, λ free. both_ways (list_all (is_entry_fault_free m) entries) parts.2 (list_free free)),
    λ h. rw (h.0.closed.start, list_closed h.0, not_free h.1) refl,
  )

pub judged_lists : JudgedLaw
judged_lists = record { whole = whole_list; agreed = agreed_list }
