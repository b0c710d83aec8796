-- The entries at the result's address stand together, and no other one covers it.
use Rattle.std.proofs.Common.{◌≡◌, ℕ, true, false, eqb, ltb, List, sym, ◌∙◌, subst, rules, tests}
use Rattle.std.specs.List.Sorted.{IsPartitionPoint, IsPartitionedBy}
use Rattle.std.proofs.lemmas.Iterator.{YieldsList-from_slice}
use Rattle.std.proofs.lemmas.Iterator.Search.{YieldsList-from_take_while, any_from_yields_List}
use Rattle.std.proofs.lemmas.List.Sorted.{IsPartitionPoint-from_clause}
use Rattle.abs_domain.specs.StateView.{state_of}
use Rattle.abs_step.specs.StepView.{invariant_at}
use Rattle.case_step.specs.Entries.{EntryView}
use Rattle.case_step.specs.EntryViews.{entry_view}
use Rattle.case_step.specs.Results.{is_covered_by, result}
use Rattle.case_step.specs.declared.entry.Entry.{Entry}
use Rattle.case_step.proofs.CaseOrders.{is_partitioned, result-at, search_covers}
use Rattle.case_step.proofs.list.CaseList.covers.Goals as goal

pub returns : goal.returns
returns c =
    let x = c.args.outcome.now in
    let lower : EntryView = result x.op (entry_view x.entry.now) (state_of x.before.now) (invariant_at x.point x.after.now) in
    let at : ℕ = x.point.at in
    let entries : List Entry = c.deref.result.now in
    let rest : List Entry = c.iter.result.rest.now in
    let ordered : IsPartitionedBy (λ e. ltb e.at at) entries =
    subst (λ (es : List Entry). IsPartitionedBy (λ e. ltb e.at at) es) (sym c.deref.ensures.value) (is_partitioned _ at c.self.invariant) in
    let parted : IsPartitionPoint (λ e. ltb e.at at ≡ true) (λ e. ltb e.at at ≡ false) entries c.partition_point-first.result =
    IsPartitionPoint-from_clause (λ e. ltb e.at at) entries c.partition_point-first.result c.partition_point-first.ensures.partitioned
    ordered (λ a r f k. search (rules, tests)) in
    any_from_yields_List (λ e. is_covered_by lower (entry_view e)) _ _ _ c.any.ensures.ran
    (YieldsList-from_take_while _ (λ e. eqb e.at at) (YieldsList-from_slice rest (cc)) c.take_while.ensures.closure
    c.take_while.ensures.done (λ x b q k. search (rules, tests))) (λ x b q k. search (rules, tests))
    ∙ search_covers lower at c.partition_point-first.result _ entries _ rest _ (result-at _ _ _ _) c.deref.ensures.value
    c.deref-2.ensures.value c.iter.ensures.rest c.self.view_is c.self.invariant parted
