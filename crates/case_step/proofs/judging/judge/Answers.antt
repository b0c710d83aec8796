-- Each entry is judged in its turn: the first failure is told, or else whether all cases are free of faults.
use Rattle.std.proofs.Common.{◌≡◌, ◌&&◌, ap, refl, sym, ◌∙◌}
use Rattle.std.specs.Prelude.{is_ok}
use Rattle.std.specs.List.{list_all}
use Rattle.abs_step.specs.MapView.{MapView, view_of}
use Rattle.case_step.specs.CaseLists.{cases_failure, cases_in, is_case_fault_free, is_entry_fault_free, safe_answer}
use Rattle.case_step.specs.Entries.{EntryView}
use Rattle.case_step.specs.EntryViews.{entry_view}
use Rattle.case_step.proofs.Conjunctions.{first_failed, second_found}
use Rattle.case_step.proofs.FirstFailures.{all_judged, failure_judged, made_cases, none_judged, one_more_judged, start_judged}
use Rattle.case_step.proofs.judging.judge.Goals as goal
use Rattle.case_step.proofs.judging.judge.Goals.{then-is_fault_free, else-is_fault_free, then-is_fault_free-2, else-is_fault_free-2}

pub returns-then-not-covers_start : goal.returns-then-not-covers_start
returns-then-not-covers_start c = rw c.point_of.ensures (start_judged _ _ (sym c.if-not-covers_start.ensures))

pub loop-place-init : goal.loop-place-init
loop-place-init c = none_judged _ _ _ c.as_slice-entry-items.ensures (sym c.if-not-covers_start.ensures)

pub returns-in-Some : goal.returns-in-Some
returns-in-Some c =
    let m : MapView = view_of c.args.map.now in
    let e : EntryView = entry_view c.entry-item.result in
    let made : c.fill.new.self ≡ cases_in m e =
    made_cases m c.args.list.now c.fill.result e c.instruction_at-op.result c.fill.new.self
    (sym c.map_err.ensures.variant ∙ ap is_ok c.in_ok-map_err.was) c.fill.ensures c.instruction_at-op.ensures.instruction in
    failure_judged m c.args.list.now c.as_slice-entry-items.result.now c.loop-place.place c.loop-place.is_fault_free c.entry-item.result
    c.in-Some.failure c.loop-place.invariant c.loop-place-test.true c.entry-item.is
    (c.in-Some.ensures ∙ ap (λ cases. cases_failure m c.args.list.now c.loop-place.place e cases) (c.as_slice.ensures ∙ made))

pub loop-place-preserved : goal.loop-place-preserved
loop-place-preserved c =
    let m : MapView = view_of c.args.map.now in
    let e : EntryView = entry_view c.entry-item.result in
    let made : c.fill.new.self ≡ cases_in m e =
    made_cases m c.args.list.now c.fill.result e c.instruction_at-op.result c.fill.new.self
    (sym c.map_err.ensures.variant ∙ ap is_ok c.in_ok-map_err.was) c.fill.ensures c.instruction_at-op.ensures.instruction in
    let also : c.if-is_fault_free.is_fault_free ≡ (c.loop-place.is_fault_free && is_entry_fault_free m e) = elim c.if-is_fault_free.branch [
      | then-is_fault_free w ↦ second_found _ _ _ _ _ w.is_fault_free-is w.if-is_fault_free.true refl
          (w.are_fault_free-is_fault_free.ensures
          ∙ ap (λ cases. list_all (is_case_fault_free m e) cases) (w.as_slice-then-is_fault_free.ensures ∙ made))
      | else-is_fault_free w ↦ first_failed _ _ _ _ w.is_fault_free-is w.if-is_fault_free.false refl
    ] in
    one_more_judged m c.args.list.now c.as_slice-entry-items.result.now c.loop-place.place c.loop-place.is_fault_free _ c.entry-item.result
    c.loop-place.invariant c.loop-place-test.true c.entry-item.is
    (c.in_default.ensures ∙ ap (λ cases. cases_failure m c.args.list.now c.loop-place.place e cases) (c.as_slice.ensures ∙ made)) also

pub returns : goal.returns
returns c =
    let whole = all_judged _ _ _ c.loop-place.place _ c.loop-place.invariant c.loop-place-test.false in
    elim c.if-is_fault_free-2.branch [
      | then-is_fault_free-2 w ↦ w.result-is ∙ sym (ap safe_answer w.if-is_fault_free-2.true) ∙ whole
      | else-is_fault_free-2 w ↦ w.result-is ∙ sym (ap safe_answer w.if-is_fault_free-2.false) ∙ whole
    ]
