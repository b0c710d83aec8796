-- What an answer of a search says: its text is read as a list of so many entries, which is found whole or agreed, whoever made it.
use Rattle.std.specs.Prelude.{◌≡◌, ◌≤◌, Bool, true, false, List, length, Option, Some, None, option_map, option_and_then, Ok}
use Rattle.std.specs.Result.{result_ok}
use Rattle.chip_face.specs.declared.specification.ChipSpec.{ChipSpec}
use Rattle.cart_data.specs.declared.cart.Cart.{Cart}
use Rattle.abs_step.specs.MapView.{MapView, chips_view}
use Rattle.abs_step.specs.Soundness.{OnlyUndriven}
use Rattle.cart_checker.specs.Verdicts.{IsFaultFreeCart, IsSafeCart}
use Rattle.certificate.specs.VerifiedMaps.{GoesOnAlways}
use Rattle.case_step.specs.Entries.{EntryView}
use Rattle.case_step.specs.CaseLists.{judged}
use Rattle.case_step.specs.declared.answer.CasesAnswer.{CasesAnswer}
use Rattle.case_step.specs.declared.answer.CasesAnswer.TheVariants.{Whole as WholeList, Agreed as AgreedList, NotClosed, Unsafe}
use Rattle.case_text.specs.CasesText.{cases_of, most_entries}
use Rattle.case_text.specs.WrittenCases.{most_text, written}
use Rattle.case_search.specs.declared.proving.CasesText.{CasesText}
use Rattle.case_search.specs.declared.proving.ProveAnswer.{ProveAnswer}
use Rattle.case_search.specs.declared.proving.ProveAnswer.TheVariants.{Whole, Agreed, Unproved}

-- ---- lists that are told

-- a text of at most 67,108,864 bytes is read as a list of so many entries, and this is found of it
pub record IsListOf (m : MapView) (answer : CasesAnswer) (shown : CasesText) : Type 0 where
  pub list : List EntryView
  pub read : cases_of shown.text.items ≡ Ok list
  pub few : length list ≤ most_entries
  pub count : length list ≡ shown.entries
  pub found : judged m list ≡ answer
  pub size : length shown.text.items ≤ most_text

-- The list is found whole, and then each access of every run is served; or it is found agreed, and each is but for reads at D0 that no chip
-- answers. An answer without a list says nothing.
abbrev pub Shows : List ChipSpec → ProveAnswer → Type 0
Shows chips (Whole shown) = IsListOf (chips_view chips) WholeList shown × GoesOnAlways (λ here fault. fault ≡ None) chips
Shows chips (Agreed shown) =
    IsListOf (chips_view chips) AgreedList shown × GoesOnAlways (λ here fault. OnlyUndriven here.flat.state.flow.d0 fault) chips
Shows chips (Unproved point reason) = Unit {0}

-- ---- no less than is found by states at points

abbrev pub is_whole : ProveAnswer → Bool
is_whole (Whole shown) = true
is_whole (Agreed shown) = false
is_whole (Unproved point reason) = false

abbrev pub is_shown : ProveAnswer → Bool
is_shown (Whole shown) = true
is_shown (Agreed shown) = true
is_shown (Unproved point reason) = false

-- there is an answer, and it is whole
abbrev pub is_whole_found : Option ProveAnswer → Bool
is_whole_found None = false
is_whole_found (Some answer) = is_whole answer

-- where some closed and safe map of states at points is free of faults a list is found whole, and where there is one a list is found
pub record IsNoLess (cart : Cart) (answer : ProveAnswer) : Type 0 where
  pub whole : IsFaultFreeCart cart → is_whole answer ≡ true
  pub shown : IsSafeCart cart → is_shown answer ≡ true

-- ---- what is found of the text of some entries, where there is one

abbrev pub judged_entries : MapView → List EntryView → Option CasesAnswer
judged_entries m entries = option_and_then (λ text. option_map (judged m) (result_ok (cases_of text))) (written entries)

-- that it is whole, or that it is agreed
abbrev pub found_of : Option CasesAnswer → Option Bool
found_of None = None
found_of (Some WholeList) = Some true
found_of (Some AgreedList) = Some false
found_of (Some (NotClosed from to)) = None
found_of (Some (Unsafe entry reason)) = None
