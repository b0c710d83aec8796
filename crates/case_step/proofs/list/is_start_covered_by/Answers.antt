-- Of the four parts of the start, one after another is covered.
use Rattle.std.proofs.Common.{◌≡◌, ◌&&◌, sym, ◌∙◌, refl}
use Rattle.case_step.specs.Entries.{EntryView}
use Rattle.case_step.specs.EntryViews.{entry_view}
use Rattle.case_step.proofs.Conjunctions.{first_failed, second_found}
use Rattle.case_step.proofs.StartCover.{are_counters_met, are_registers_met, is_point_met, start_covered}
use Rattle.case_step.proofs.list.is_start_covered_by.Goals as goal
use Rattle.case_step.proofs.list.is_start_covered_by.Goals.{then-is_at_start, else-is_at_start, then-are_registers_free}
use Rattle.case_step.proofs.list.is_start_covered_by.Goals.{else-are_registers_free}

pub returns-then-are_counters_free : goal.returns-then-are_counters_free
returns-then-are_counters_free c =
    let u : EntryView = entry_view c.args.upper.now in
    let first_two : c.if-is_at_start.value ≡ (is_point_met u && are_registers_met u) = elim c.if-is_at_start.branch [
      | then-is_at_start w ↦ second_found _ _ _ _ _ w.value-is w.if-is_at_start.true c.is_at_start.ensures w.are_registers_free.ensures
      | else-is_at_start w ↦ first_failed _ _ _ _ w.value-is w.if-is_at_start.false c.is_at_start.ensures
    ] in
    let first_three : c.if-are_registers_free.value ≡ ((is_point_met u && are_registers_met u) && are_counters_met u) =
    elim c.if-are_registers_free.branch [
      | then-are_registers_free w ↦ second_found _ _ _ _ _ w.value-is w.if-are_registers_free.true first_two w.are_counters_free.ensures
      | else-are_registers_free w ↦ first_failed _ _ _ _ w.value-is w.if-are_registers_free.false first_two
    ] in
    second_found _ _ _ _ _ refl c.if-are_counters_free.true first_three c.is_scratchpad_free.ensures ∙ sym (start_covered u)

pub returns-else-are_counters_free : goal.returns-else-are_counters_free
returns-else-are_counters_free c =
    let u : EntryView = entry_view c.args.upper.now in
    let first_two : c.if-is_at_start.value ≡ (is_point_met u && are_registers_met u) = elim c.if-is_at_start.branch [
      | then-is_at_start w ↦ second_found _ _ _ _ _ w.value-is w.if-is_at_start.true c.is_at_start.ensures w.are_registers_free.ensures
      | else-is_at_start w ↦ first_failed _ _ _ _ w.value-is w.if-is_at_start.false c.is_at_start.ensures
    ] in
    let first_three : c.if-are_registers_free.value ≡ ((is_point_met u && are_registers_met u) && are_counters_met u) =
    elim c.if-are_registers_free.branch [
      | then-are_registers_free w ↦ second_found _ _ _ _ _ w.value-is w.if-are_registers_free.true first_two w.are_counters_free.ensures
      | else-are_registers_free w ↦ first_failed _ _ _ _ w.value-is w.if-are_registers_free.false first_two
    ] in
    first_failed _ _ _ _ refl c.if-are_counters_free.false first_three ∙ sym (start_covered u)
