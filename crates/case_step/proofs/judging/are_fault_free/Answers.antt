-- One case after another is free of faults.
use Rattle.std.proofs.Common.{sym, ◌∙◌, rules, tests}
use Rattle.std.proofs.lemmas.Iterator.{YieldsList-from_slice}
use Rattle.std.proofs.lemmas.Iterator.Search.{all_from_yields_List}
use Rattle.std.proofs.lemmas.List.Folds.{list_all-map}
use Rattle.abs_domain.specs.StateView.{state_of}
use Rattle.abs_step.specs.MapView.{view_of}
use Rattle.case_step.specs.CaseLists.{is_case_fault_free}
use Rattle.case_step.specs.EntryViews.{entry_view}
use Rattle.case_step.proofs.judging.are_fault_free.Goals as goal

pub returns : goal.returns
returns c =
    let test = is_case_fault_free (view_of c.args.map.now) (entry_view c.args.entry.now) in
    all_from_yields_List (λ case. test (state_of case)) _ _ _ c.all.ensures.ran
    (YieldsList-from_slice c.args.cases.now (cc)) (λ x b q k. search (rules, tests))
    ∙ sym (list_all-map test state_of c.args.cases.now)
