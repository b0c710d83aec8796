-- Lists of entries over what is known of the chips: closed, safe and free of faults; and what is found of one.
use Rattle.std.specs.Prelude.{◌≡◌, ℕ, ◌+◌, Bool, true, false, if◌then◌else◌, List, [], ◌∷◌, Option, Some, None, option_map, unwrap_or}
use Rattle.std.specs.List.{Contains, list_all}
use Rattle.std.specs.Option.{option_or}
use Rattle.f8_spec.specs.declared.instructions.Op.{Op}
use Rattle.abs_domain.specs.AbstractState.{AbstractState}
use Rattle.abs_domain.specs.declared.points.Point.{Point}
use Rattle.abs_domain.specs.declared.reason.Reason.{Reason}
use Rattle.abs_step.specs.MapView.{MapView}
use Rattle.abs_step.specs.Safety.{op_at, unsafe_reason, is_fault_free}
use Rattle.abs_step.specs.Successors.{Invariant, start_point, successors}
use Rattle.case_step.specs.Entries.{EntryView, start_entry}
use Rattle.case_step.specs.Cases.{at_entry, cases_at, plain_case}
use Rattle.case_step.specs.Results.{result, is_covered}
use Rattle.case_step.specs.declared.answer.CasesAnswer.{CasesAnswer}
use Rattle.case_step.specs.declared.answer.CasesAnswer.TheVariants.{Whole, Agreed, NotClosed, Unsafe}

-- ---- the cases of an entry, by the instruction at its address

abbrev pub op_of : MapView → EntryView → Option Op
op_of m e = op_at m (at_entry e (plain_case e))

abbrev pub cases_in : MapView → EntryView → List AbstractState
cases_in m e = cases_at (op_of m e) e

-- no register is tracked
abbrev pub case_reason : MapView → EntryView → AbstractState → Option Reason
case_reason m e s = unsafe_reason m [] (at_entry e s)

abbrev pub is_case_fault_free : MapView → EntryView → AbstractState → Bool
is_case_fault_free m e s = is_fault_free m (at_entry e s)

abbrev pub next_in : Op → MapView → EntryView → AbstractState → List Invariant
next_in op m e s = successors op m [] (at_entry e s)

-- ---- lists that are closed, safe and free of faults

-- the start is covered, and so is each result of each safe case
pub record IsClosedList (m : MapView) (entries : List EntryView) : Type 0 where
  pub start : is_covered entries start_entry ≡ true
  pub next : (e : EntryView) → Contains entries e → (op : Op) → op_of m e ≡ Some op → (s : AbstractState) → Contains (cases_in m e) s →
      case_reason m e s ≡ None → (to : Invariant) → Contains (next_in op m e s) to → is_covered entries (result op e s to) ≡ true

abbrev pub HasSafeCases : MapView → List EntryView → Type 0
HasSafeCases m entries = (e : EntryView) → Contains entries e → (s : AbstractState) → Contains (cases_in m e) s → case_reason m e s ≡ None

abbrev pub HasFaultFreeCases : MapView → List EntryView → Type 0
HasFaultFreeCases m entries =
    (e : EntryView) → Contains entries e → (s : AbstractState) → Contains (cases_in m e) s → is_case_fault_free m e s ≡ true

pub record IsSafelyClosedList (m : MapView) (entries : List EntryView) : Type 0 where
  pub closed : IsClosedList m entries
  pub safe : HasSafeCases m entries

-- ---- what is found of a list

-- the point of the first result that no entry covers
abbrev pub first_open : List EntryView → Op → EntryView → AbstractState → List Invariant → Option Point
first_open entries op e s [] = None
first_open entries op e s (to ∷ ways) =
    if is_covered entries (result op e s to) then first_open entries op e s ways else Some to.point

-- the failure of a case: it isn't safe, or else it leads to what isn't covered
abbrev pub failure_by : Option Reason → ℕ → Option Point → Option CasesAnswer
failure_by (Some reason) place to = Some (Unsafe place reason)
failure_by None place to = option_map (λ point. NotClosed (Some place) point) to

abbrev pub open_at : Option Op → MapView → List EntryView → EntryView → AbstractState → Option Point
open_at None m entries e s = None
open_at (Some op) m entries e s = first_open entries op e s (next_in op m e s)

abbrev pub case_failure : MapView → List EntryView → ℕ → EntryView → AbstractState → Option CasesAnswer
case_failure m entries place e s = failure_by (case_reason m e s) place (open_at (op_of m e) m entries e s)

-- that of the first case that has one
abbrev pub cases_failure : MapView → List EntryView → ℕ → EntryView → List AbstractState → Option CasesAnswer
cases_failure m entries place e [] = None
cases_failure m entries place e (s ∷ cases) = option_or (case_failure m entries place e s) (cases_failure m entries place e cases)

abbrev pub entry_failure : MapView → List EntryView → ℕ → EntryView → Option CasesAnswer
entry_failure m entries place e = cases_failure m entries place e (cases_in m e)

-- that of the first of some entries, by their places from a number on
abbrev pub first_failure : MapView → List EntryView → ℕ → List EntryView → Option CasesAnswer
first_failure m entries place [] = None
first_failure m entries place (e ∷ es) = option_or (entry_failure m entries place e) (first_failure m entries (place + 1) es)

abbrev pub is_entry_fault_free : MapView → EntryView → Bool
is_entry_fault_free m e = list_all (is_case_fault_free m e) (cases_in m e)

abbrev pub safe_answer : Bool → CasesAnswer
safe_answer true = Whole
safe_answer false = Agreed

-- the start first, and then each entry, and of an entry each case
unfoldable pub judged : MapView → List EntryView → CasesAnswer
judged m entries =
    if is_covered entries start_entry
    then unwrap_or (first_failure m entries 0 entries) (safe_answer (list_all (is_entry_fault_free m) entries))
    else NotClosed None start_point
