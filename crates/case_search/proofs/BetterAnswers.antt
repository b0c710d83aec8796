-- The better of two answers says no less than the checker, where the second one does.
use Rattle.std.proofs.Common.{◌≡◌, Bool, true, false, cond, refl}
use Rattle.std.specs.Prelude.{Option, Some, None, is_some, option_map, unwrap_or}
use Rattle.std.specs.Option.{ForSome, option_or}
use Rattle.cart_data.specs.declared.cart.Cart.{Cart}
use Rattle.cart_checker.specs.Verdicts.{IsFaultFreeCart, IsSafeCart}
use Rattle.case_search.specs.ProvedLists.{IsNoLess, is_shown, is_whole, is_whole_found}
use Rattle.case_search.specs.declared.proving.ProveAnswer.{ProveAnswer}
use Rattle.case_search.specs.declared.proving.ProveAnswer.TheVariants.{Whole, Agreed, Unproved}

whole_is_shown : (answer : ProveAnswer) → is_whole answer ≡ true → is_shown answer ≡ true
whole_is_shown (Whole shown) whole = refl
whole_is_shown (Agreed shown) whole = absurd (cc)
whole_is_shown (Unproved point reason) whole = absurd (cc)

pub whole_no_less : (cart : Cart) (first : Option ProveAnswer) (other : ProveAnswer) → is_whole_found first ≡ true →
    IsNoLess cart (unwrap_or first other)
whole_no_less cart None other whole = absurd (cc)
whole_no_less cart (Some answer) other whole = record { whole = λ free. whole; shown = λ safe. whole_is_shown answer whole }

-- an answer, if there is one, has a list
abbrev pub HasList : Option ProveAnswer → Type 0
HasList answer = ForSome answer (λ answer. is_shown answer ≡ true)

first_shown : (first : Option ProveAnswer) (answer other : ProveAnswer) → HasList first → HasList (Some answer) →
    is_shown (unwrap_or (option_or first (Some answer)) other) ≡ true
first_shown None answer other own list = list answer refl
first_shown (Some first) answer other own list = own first refl

module _ (cart : Cart) (first : Option ProveAnswer) (other : ProveAnswer) (own : HasList first) where
  pub better_no_less : (second : Option ProveAnswer) → HasList second → (IsFaultFreeCart cart → option_map is_whole second ≡ Some true) →
      (IsSafeCart cart → is_some second ≡ true) →
      IsNoLess cart (unwrap_or (cond (is_whole_found second) second (option_or first second)) other)
  better_no_less None list whole safe = record {
    whole = λ free. let none : None ≡ Some true = whole free in absurd (cc);
    shown = λ some. let none : false ≡ true = safe some in absurd (cc);
  }
  better_no_less (Some answer) list whole safe = by (is_whole answer) refl
    where
      by : (b : Bool) → is_whole answer ≡ b → IsNoLess cart (unwrap_or (cond b (Some answer) (option_or first (Some answer))) other)
      by true is = record { whole = λ free. is; shown = λ some. whole_is_shown answer is }
      by false is = record {
        whole = λ free. let both : Some (is_whole answer) ≡ Some true = whole free in absurd (cc);
        shown = λ some. first_shown first answer other own list;
      }
