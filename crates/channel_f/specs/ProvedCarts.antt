-- What `prove --cases` tells of a cartridge, and what `confirm` says of that.
use Rattle.std.specs.Prelude.{◌≡◌, ◌≤◌, Ok, List, length}
use Rattle.cart_data.specs.declared.cart.Cart.{Cart}
use Rattle.case_step.specs.Entries.{EntryView}
use Rattle.case_text.specs.CasesText.{cases_of}
use Rattle.case_search.specs.ProvedLists.{Shows}
use Rattle.case_search.specs.declared.proving.CasesText.{CasesText}
use Rattle.case_search.specs.declared.proving.ProveAnswer.{ProveAnswer}
use Rattle.case_search.specs.declared.proving.ProveAnswer.TheVariants.{Whole, Agreed, Unproved}
use Rattle.channel_f.specs.Answers.{confirm_answer, prove_answer}

-- The text of a list is no longer than a file may be that `confirm` reads, it is read, and what is found of the list is told as the answer is.
pub record IsConfirmedAs (cart : Cart) (answer : ProveAnswer) (shown : CasesText) : Type 0 where
  pub list : List EntryView
  pub fits : length shown.text.items ≤ 67108864
  pub read : cases_of shown.text.items ≡ Ok list
  pub told : confirm_answer (record { cart = cart; list = list }) ≡ prove_answer answer

-- so it is of each list that is found
abbrev pub IsConfirmed : Cart → ProveAnswer → Type 0
IsConfirmed cart (Whole shown) = IsConfirmedAs cart (Whole shown) shown
IsConfirmed cart (Agreed shown) = IsConfirmedAs cart (Agreed shown) shown
IsConfirmed cart (Unproved point reason) = Unit {0}

pub record ProvedCartLaw : Type 0 where
  pub confirmed : (cart : Cart) (answer : ProveAnswer) → Shows cart.chips answer → IsConfirmed cart answer
