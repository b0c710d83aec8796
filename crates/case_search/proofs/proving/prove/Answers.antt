-- Either the first answer is whole, or the better of two is told.
use Rattle.std.proofs.Common.{ap, sym, ◌∙◌, subst}
use Rattle.std.specs.Prelude.{Option, unwrap_or}
use Rattle.case_search.specs.ProvedLists.{IsNoLess}
use Rattle.case_search.specs.declared.proving.ProveAnswer.{ProveAnswer}
use Rattle.case_search.proofs.BetterAnswers.{better_no_less, whole_no_less}
use Rattle.case_search.proofs.proving.prove.Goals.{then-is_found_whole, else-is_found_whole+in_ok-by_states}
use Rattle.case_search.proofs.proving.prove.Goals as goal

pub returns-clause-no_less : goal.returns-clause-no_less
returns-clause-no_less c =
    let or_none = λ (answer : Option ProveAnswer). unwrap_or answer c.unproved.result in
    elim c.if-is_found_whole.branch [
      | then-is_found_whole w ↦
          subst (IsNoLess c.args.cart.now) (sym (c.unwrap_or.ensures ∙ ap or_none w.answer-is))
          (whole_no_less c.args.cart.now c.in_ok-first.first c.unproved.result (sym w.if-is_found_whole.ensures))
      | else-is_found_whole+in_ok-by_states w ↦
          subst (IsNoLess c.args.cart.now) (sym (c.unwrap_or.ensures ∙ ap or_none (w.answer-is ∙ w.better-answer.ensures)))
          (better_no_less c.args.cart.now c.in_ok-first.first c.unproved.result c.in_ok-first.ensures.told w.in_ok-by_states.field-0
          w.in_ok-by_states.ensures.told w.in_ok-by_states.ensures.whole w.in_ok-by_states.ensures.safe)
    ]
