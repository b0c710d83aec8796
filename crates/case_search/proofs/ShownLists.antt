-- What is told of a text that is read again: its list, and what was found of it.
use Rattle.std.proofs.Common.{◌≡◌, ℕ, ◌≤◌, Bool, true, false, cond, List, length, sym, subst, arith, refl}
use Rattle.std.specs.Prelude.{Option, Some, None, Ok, nat_le}
use Rattle.std.proofs.lemmas.Bool.Decides.{nat_tests}
use Rattle.abs_step.proofs.Knowing.{right_of}
use Rattle.abs_step.specs.MapView.{MapView}
use Rattle.case_step.specs.CaseLists.{judged}
use Rattle.case_step.specs.Entries.{EntryView}
use Rattle.case_step.specs.declared.answer.CasesAnswer.{CasesAnswer}
use Rattle.case_text.specs.CasesText.{cases_of}
use Rattle.case_text.specs.WrittenCases.{is_writable, lines_of, most_text, text_of, written}
use Rattle.chip_face.specs.declared.specification.ChipSpec.{ChipSpec}
use Rattle.case_search.specs.ProvedLists.{IsListOf, Shows}
use Rattle.case_search.specs.declared.proving.CasesText.{CasesText}
use Rattle.case_search.specs.declared.proving.ProveAnswer.{ProveAnswer}

-- a text that is written isn't too long
short_text : (lines : List (List ℕ)) (text : List ℕ) → cond (is_writable lines) (Some (text_of lines)) None ≡ Some text →
    length text ≤ most_text
short_text lines text = by (is_writable lines) (λ may. right_of _ _ (right_of _ _ may))
  where
    by : (b : Bool) → (b ≡ true → nat_le (length (text_of lines)) most_text ≡ true) → cond b (Some (text_of lines)) None ≡ Some text →
        length text ≤ most_text
    by true short is =
        let same : text_of lines ≡ text = cc in
        let test = short refl in
        let within : length (text_of lines) ≤ 67108864 = grind (arith, nat_tests, test) in
        subst (λ (t : List ℕ). length t ≤ most_text) same within
    by false short is = absurd (cc)

written_short : (entries : List EntryView) (text : List ℕ) → written entries ≡ Some text → length text ≤ most_text
unfolding written
written_short entries text is = short_text (lines_of entries) text is

pub list_shown : (m : MapView) (found : CasesAnswer) (shown : CasesText) (entries list : List EntryView) →
    written entries ≡ Some shown.text.items → cases_of shown.text.items ≡ Ok list → length list ≤ 65536 → shown.entries ≡ length list →
    found ≡ judged m list → IsListOf m found shown
list_shown m found shown entries list is read few count answer = record {
  list = list;
  read = read;
  few = few;
  count = sym count;
  found = sym answer;
  size = written_short entries shown.text.items is;
}

-- what some answer shows this one does, where they are one
pub told_shows : (chips : List ChipSpec) (told : Option ProveAnswer) (answer other : ProveAnswer) → Shows chips answer →
    told ≡ Some answer → told ≡ Some other → Shows chips other
told_shows chips told answer other shows is same = let one : answer ≡ other = cc in subst (Shows chips) one shows
