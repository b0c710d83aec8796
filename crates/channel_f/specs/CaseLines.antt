-- The lines of what is found of a list of entries, of a search that found none, and of a text of entries at fault. Every line ends with a
-- line feed, and numbers are decimal.
use Rattle.std.specs.Prelude.{ℕ, ◌+◌, ◌<◌, ◌≤◌, List, [], ◌++◌, codes, decimal, Option, Some, None, option_map, unwrap_or}
use Rattle.std.specs.Option.{ForSome}
use Rattle.abs_domain.specs.Reasons.{reason_number}
use Rattle.abs_domain.specs.declared.points.Point.{Point}
use Rattle.abs_domain.specs.declared.reason.Reason.{Reason}
use Rattle.case_step.specs.declared.answer.CasesAnswer.{CasesAnswer}
use Rattle.case_step.specs.declared.answer.CasesAnswer.TheVariants.{Whole, Agreed, NotClosed, Unsafe}
use Rattle.case_search.specs.declared.proving.ProveAnswer.{ProveAnswer}
use Rattle.case_search.specs.declared.proving.ProveAnswer.TheVariants as proved
use Rattle.report.specs.CheckLines.{point_text}

-- the line of the text at which the entry at a place of the list stands: lines are counted from 1, and the first one has the number of entries
abbrev pub entry_line : ℕ → ℕ
entry_line place = place + 2

-- each entry that an answer tells of is one of so many
abbrev pub IsOfList : ℕ → CasesAnswer → Type 0
IsOfList entries Whole = Unit {0}
IsOfList entries Agreed = Unit {0}
IsOfList entries (NotClosed from to) = ForSome from (λ place. place < entries)
IsOfList entries (Unsafe place reason) = place < entries

-- so is each of the list that a search found: one of at most 65,536
abbrev pub IsFew : ProveAnswer → Type 0
IsFew (proved.Whole shown) = shown.entries ≤ 65536
IsFew (proved.Agreed shown) = shown.entries ≤ 65536
IsFew (proved.Unproved point reason) = Unit {0}

-- ---- lines

-- what comes to a point: a case of the entry at a place, by its line, or the start of a run
abbrev pub origin_text : Option ℕ → List ℕ
origin_text None = codes "start"
origin_text (Some place) = decimal (entry_line place)

-- no entry covers what comes to a point, where no register is tracked
unfoldable pub list_notclosed_line : Option ℕ → Point → List ℕ
list_notclosed_line from to = codes "notclosed " ++ origin_text from ++ codes " to " ++ point_text [] to ++ codes "\n"

-- a case of the entry at a place is not safe, for a reason, which is told by its number
unfoldable pub list_unsafe_line : ℕ → Reason → List ℕ
list_unsafe_line place reason = codes "unsafe " ++ decimal (entry_line place) ++ codes " " ++ decimal (reason_number reason) ++ codes "\n"

-- a search gave up at a point, where no register is tracked, for a reason, which is told by its number, or for want of room, which is 0
abbrev pub given_up_number : Option Reason → ℕ
given_up_number reason = unwrap_or (option_map reason_number reason) 0

unfoldable pub unproved_line : Point → Option Reason → List ℕ
unproved_line point reason = codes "unproved " ++ point_text [] point ++ codes " " ++ decimal (given_up_number reason) ++ codes "\n"

-- a line of the text is at fault
unfoldable pub cases_line : ℕ → ℕ → List ℕ
cases_line line cause = codes "error cases line " ++ decimal line ++ codes " cause " ++ decimal cause ++ codes "\n"
