-- A list that is found is confirmed as it is told.
use Rattle.std.proofs.Common.{◌≡◌, ℕ, length, ap, ◌∙◌}
use Rattle.cart_data.specs.declared.cart.Cart.{Cart}
use Rattle.abs_step.specs.MapView.{chips_view}
use Rattle.case_step.specs.declared.answer.CasesAnswer.{CasesAnswer}
use Rattle.case_step.specs.declared.answer.CasesAnswer.TheVariants as confirmed
use Rattle.case_search.specs.ProvedLists.{IsListOf, Shows}
use Rattle.case_search.specs.declared.proving.CasesText.{CasesText}
use Rattle.case_search.specs.declared.proving.ProveAnswer.{ProveAnswer}
use Rattle.case_search.specs.declared.proving.ProveAnswer.TheVariants.{Whole, Agreed, Unproved}
use Rattle.channel_f.specs.Answers.{confirm_answer, confirmed_answer}
use Rattle.channel_f.specs.ProvedCarts.{IsConfirmed, ProvedCartLaw}

-- what is confirmed of a list is told of as many entries
told_of_list : (cart : Cart) (found : CasesAnswer) (shown : CasesText) (is : IsListOf (chips_view cart.chips) found shown) →
    confirm_answer (record { cart = cart; list = is.list }) ≡ confirmed_answer shown.entries found
told_of_list cart found shown is =
    ap (λ (answer : CasesAnswer). confirmed_answer (length is.list) answer) is.found
    ∙ ap (λ (entries : ℕ). confirmed_answer entries found) is.count

pub proved_carts : ProvedCartLaw
proved_carts = record { confirmed = by }
  where
    by : (cart : Cart) (answer : ProveAnswer) → Shows cart.chips answer → IsConfirmed cart answer
    by cart (Whole shown) shows = record {
      list = shows.0.list;
      fits = shows.0.size;
      read = shows.0.read;
      told = told_of_list cart confirmed.Whole shown shows.0;
    }
    by cart (Agreed shown) shows = record {
      list = shows.0.list;
      fits = shows.0.size;
      read = shows.0.read;
      told = told_of_list cart confirmed.Agreed shown shows.0;
    }
    by cart (Unproved point reason) shows = tt
