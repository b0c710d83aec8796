-- What is written of entries is read as a list that has them, and no other one.
use Rattle.std.specs.Prelude.{◌≡◌, ℕ, ◌↔◌, List, Some, Ok}
use Rattle.std.specs.List.{AllByRecursion, Contains}
use Rattle.case_step.specs.Entries.{EntryView}
use Rattle.case_text.specs.CasesText.{cases_of}
use Rattle.case_text.specs.WrittenCases.{IsInForm, written}

-- a text is read as a list of some entries, in its order, and of no others
pub record IsReadAs (text : List ℕ) (entries : List EntryView) : Type 0 where
  pub list : List EntryView
  pub read : cases_of text ≡ Ok list
  pub same : (e : EntryView) → Contains list e ↔ Contains entries e

pub record WrittenLaw : Type 0 where
  pub again : (entries : List EntryView) (text : List ℕ) → AllByRecursion IsInForm entries → written entries ≡ Some text → IsReadAs text entries
