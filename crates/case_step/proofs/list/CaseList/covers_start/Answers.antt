-- One entry after another is asked.
use Rattle.std.proofs.Common.{rules, tests, ◌∙◌, ap, sym}
use Rattle.std.proofs.lemmas.Iterator.{YieldsList-from_slice}
use Rattle.std.proofs.lemmas.Iterator.Search.{any_from_yields_List}
use Rattle.case_step.specs.Entries.{start_entry}
use Rattle.case_step.specs.EntryViews.{entry_view}
use Rattle.case_step.specs.Results.{is_covered, is_covered_by}
use Rattle.case_step.proofs.CaseOrders.{any_mapped}
use Rattle.case_step.proofs.list.CaseList.covers_start.Goals as goal

pub returns : goal.returns
returns c =
    any_from_yields_List (λ e. is_covered_by start_entry (entry_view e)) _ _ _ c.any.ensures.ran
    (YieldsList-from_slice c.self.inside.entries.items (cc)) (λ x b q k. search (rules, tests))
    ∙ sym (any_mapped (is_covered_by start_entry) c.self.inside.entries.items)
    ∙ ap (λ entries. is_covered entries start_entry) c.self.view_is
