-- Each entry that is told of a list is one of it.
use Rattle.std.proofs.Common.{◌≡◌, ℕ, ◌+◌, ◌<◌, ◌≤◌, Bool, true, false, List, [], ◌∷◌, length, Option, Some, None, arith}
use Rattle.std.specs.Prelude.{if◌then◌else◌, unwrap_or}
use Rattle.std.specs.List.{list_all}
use Rattle.std.specs.Option.{option_or}
use Rattle.abs_domain.specs.AbstractState.{AbstractState}
use Rattle.abs_domain.specs.declared.points.Point.{Point}
use Rattle.abs_domain.specs.declared.reason.Reason.{Reason}
use Rattle.abs_step.specs.MapView.{MapView}
use Rattle.abs_step.specs.Successors.{start_point}
use Rattle.case_step.specs.Entries.{EntryView, start_entry}
use Rattle.case_step.specs.Results.{is_covered}
use Rattle.case_step.specs.CaseLists.{case_reason, op_of, open_at, failure_by, cases_in, case_failure, cases_failure, entry_failure}
use Rattle.case_step.specs.CaseLists.{first_failure, safe_answer, is_entry_fault_free, judged}
use Rattle.case_step.specs.declared.answer.CasesAnswer.{CasesAnswer}
use Rattle.case_step.specs.declared.answer.CasesAnswer.TheVariants.{NotClosed}
use Rattle.channel_f.specs.CaseLines.{IsOfList}

-- a failure, if there is one
abbrev IsFailureOf : ℕ → Option CasesAnswer → Type 0
IsFailureOf entries None = Unit {0}
IsFailureOf entries (Some answer) = IsOfList entries answer

of_reason : (entries place : ℕ) → place < entries → (reason : Option Reason) (to : Option Point) →
    IsFailureOf entries (failure_by reason place to)
of_reason entries place here (Some reason) to = here
of_reason entries place here None None = tt
of_reason entries place here None (Some to) = λ other same. by other same
  where
    by : (other : ℕ) → Some place ≡ Some other → other < entries
    by other same = let e : place ≡ other = cc in omega arith

either : (entries : ℕ) (a b : Option CasesAnswer) → IsFailureOf entries a → IsFailureOf entries b → IsFailureOf entries (option_or a b)
either entries None b first second = second
either entries (Some answer) b first second = first

of_cases : (m : MapView) (all : List EntryView) (entries place : ℕ) → place < entries → (e : EntryView) (cases : List AbstractState) →
    IsFailureOf entries (cases_failure m all place e cases)
of_cases m all entries place here e [] = tt
of_cases m all entries place here e (s ∷ cases) =
    either entries (case_failure m all place e s) (cases_failure m all place e cases)
    (of_reason entries place here (case_reason m e s) (open_at (op_of m e) m all e s)) (of_cases m all entries place here e cases)

-- entries behind so many others of the list
of_entries : (m : MapView) (all : List EntryView) (entries place : ℕ) (es : List EntryView) → place + length es ≤ entries →
    IsFailureOf entries (first_failure m all place es)
of_entries m all entries place [] few = tt
of_entries m all entries place (e ∷ es) few =
    either entries (entry_failure m all place e) (first_failure m all (place + 1) es)
    (of_cases m all entries place (omega arith) e (cases_in m e)) (of_entries m all entries (place + 1) es (omega arith))

of_safe : (entries : ℕ) (is_fault_free : Bool) → IsOfList entries (safe_answer is_fault_free)
of_safe entries true = tt
of_safe entries false = tt

unless_failed : (entries : ℕ) (failure : Option CasesAnswer) (answer : CasesAnswer) → IsFailureOf entries failure →
    IsOfList entries answer → IsOfList entries (unwrap_or failure answer)
unless_failed entries None answer failed safe = safe
unless_failed entries (Some failure) answer failed safe = failed

if_covered : (entries : ℕ) (is_covered : Bool) (answer : CasesAnswer) → IsOfList entries answer →
    IsOfList entries (if is_covered then answer else NotClosed None start_point)
if_covered entries true answer of_list = of_list
if_covered entries false answer of_list = λ place none. cc none

pub judged_places : (m : MapView) (entries : List EntryView) → IsOfList (length entries) (judged m entries)
unfolding judged
judged_places m entries =
    if_covered (length entries) (is_covered entries start_entry) _
    (unless_failed (length entries) (first_failure m entries 0 entries) _ (of_entries m entries (length entries) 0 entries (omega arith))
    (of_safe (length entries) (list_all (is_entry_fault_free m) entries)))
