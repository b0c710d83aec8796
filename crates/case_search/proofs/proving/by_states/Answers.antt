-- The list of the checker's map.
use Rattle.std.proofs.Common.{◌≡◌, map, sym, ap, ◌∙◌, subst}
use Rattle.case_step.specs.EntryViews.{entry_view}
use Rattle.noted_cases.specs.NotedEntries.{noted_entry}
use Rattle.case_search.proofs.NotedVerdicts.{HasNotes, safe_kept, whole_kept}
use Rattle.case_search.proofs.proving.by_states.Goals.{in-Whole, in-Whole-2}
use Rattle.case_search.proofs.proving.by_states.Goals as goal

pub returns-clause-whole : goal.returns-clause-whole
returns-clause-whole c =
    let has : HasNotes c.in_ok-notes.field-0 c.match-branch-2.notes = elim c.match-branch-2.branch [
      | in-Whole w ↦ subst (HasNotes c.in_ok-notes.field-0) (sym w.notes-is) w.in-Whole.is
      | in-Whole-2 w ↦ subst (HasNotes c.in_ok-notes.field-0) (sym w.notes-is) w.in-Whole.is
    ] in
    let are : map entry_view c.as_slice.result.now ≡ map noted_entry c.match-branch-2.notes =
    ap (map entry_view) c.as_slice.ensures.value ∙ c.in-Ok.ensures in
    whole_kept c.map_view_law.ensures c.noted_law.ensures c.written_law.ensures c.judged_law.ensures c.args.cart.now
    c.in_ok-notes.ensures.bytes c.in_ok-notes.field-0 c.match-branch-2.notes has c.in_ok-notes.ensures.verdict c.in_ok-notes.ensures.carries
    (map entry_view c.as_slice.result.now) are c.shown.result c.shown.ensures.found

pub returns-clause-safe : goal.returns-clause-safe
returns-clause-safe c =
    let has : HasNotes c.in_ok-notes.field-0 c.match-branch-2.notes = elim c.match-branch-2.branch [
      | in-Whole w ↦ subst (HasNotes c.in_ok-notes.field-0) (sym w.notes-is) w.in-Whole.is
      | in-Whole-2 w ↦ subst (HasNotes c.in_ok-notes.field-0) (sym w.notes-is) w.in-Whole.is
    ] in
    let are : map entry_view c.as_slice.result.now ≡ map noted_entry c.match-branch-2.notes =
    ap (map entry_view) c.as_slice.ensures.value ∙ c.in-Ok.ensures in
    safe_kept c.map_view_law.ensures c.noted_law.ensures c.written_law.ensures c.judged_law.ensures c.args.cart.now
    c.in_ok-notes.ensures.bytes c.in_ok-notes.field-0 c.match-branch-2.notes has c.in_ok-notes.ensures.verdict c.in_ok-notes.ensures.carries
    (map entry_view c.as_slice.result.now) are c.shown.result c.shown.ensures.found
