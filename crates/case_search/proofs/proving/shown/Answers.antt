-- The text that is told was written and read again, and its list judged.
use Rattle.std.proofs.Common.{◌≡◌, List, map, Some, ap, sym, ◌∙◌}
use Rattle.std.specs.Prelude.{Ok}
use Rattle.abs_step.specs.MapView.{MapView, chips_view}
use Rattle.case_step.specs.Entries.{EntryView}
use Rattle.case_step.specs.EntryViews.{entry_view}
use Rattle.case_step.specs.declared.answer.CasesAnswer.TheVariants.{Whole as WholeList, Agreed as AgreedList}
use Rattle.case_text.specs.CasesText.{cases_of}
use Rattle.case_text.specs.WrittenCases.{written}
use Rattle.case_search.specs.declared.proving.CasesText.{CasesText}
use Rattle.case_search.specs.declared.proving.ProveAnswer.TheVariants.{Whole, Agreed}
use Rattle.case_search.proofs.ShownLists.{list_shown, told_shows}
use Rattle.case_search.proofs.proving.shown.Goals.{in-Whole, in-Agreed, in-NotClosed}
use Rattle.case_search.proofs.proving.shown.Goals as goal

pub returns-clause-shows : goal.returns-clause-shows
returns-clause-shows c x is =
    let m : MapView = chips_view c.args.cart.now.chips in
    let entries : List EntryView = map entry_view c.args.entries.now in
    let told : CasesText = record { text = c.in-Some.text; entries = c.len-entries.result } in
    let text : written entries ≡ Some c.in-Some.text.items = sym (rw c.in-Some.is at c.in_ok-text.ensures) in
    let read : cases_of c.in-Some.text.items ≡ Ok c.in-Ok.list = ap cases_of (sym c.as_slice.ensures.value) ∙ c.in-Ok.ensures.cases in
    elim c.match-branch-4.branch [
      | in-Whole w ↦ told_shows c.args.cart.now.chips c.match-branch-4.result (Whole told) x (
        list_shown m WholeList told entries c.in-Ok.list text read c.in-Ok.ensures.few c.len-entries.ensures
            (sym w.in-Whole.is ∙ c.in_ok-confirm.ensures.answer),
        c.in_ok-confirm.ensures.served w.in-Whole.is,
      ) w.result-is is
      | in-Agreed w ↦ told_shows c.args.cart.now.chips c.match-branch-4.result (Agreed told) x (
        list_shown m AgreedList told entries c.in-Ok.list text read c.in-Ok.ensures.few c.len-entries.ensures
            (sym w.in-Agreed.is ∙ c.in_ok-confirm.ensures.answer),
        c.in_ok-confirm.ensures.undriven w.in-Agreed.is,
      ) w.result-is is
      | in-NotClosed w ↦ absurd (cc (is, w.result-is))
    ]
