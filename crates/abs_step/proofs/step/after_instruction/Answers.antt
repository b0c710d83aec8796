-- The reasons part by part, and what holds next.
use Rattle.std.proofs.Common.{◌≡◌, [], refl, ap, sym, ◌∙◌}
use Rattle.std.specs.Prelude.{None, if◌then◌else◌}
use Rattle.f8_spec.specs.Instructions.{length_of}
use Rattle.abs_step.specs.Safety.{first_reason, operand_reasons}
use Rattle.abs_step.specs.MapView.{view_of}
use Rattle.abs_step.specs.StepView.{invariant_at, reasons_before}
use Rattle.abs_step.specs.WorkView.{counters_view, inputs_view, writes_view, exits_view}
use Rattle.abs_step.proofs.Fitting.{next_fits}
use Rattle.abs_step.proofs.JoinedWays.{along_is}
use Rattle.abs_step.proofs.SomeSuccessor.{some_successor}
use Rattle.abs_step.proofs.StepParts.{known_at, stepped_to, by_operands, by_before, by_after, next_are}
use Rattle.abs_step.proofs.step.after_instruction.Goals as goal

pub returns-in-Some-clause-reason : goal.returns-in-Some-clause-reason
returns-in-Some-clause-reason c =
    by_operands c.args.op (view_of c.args.map.now) c.args.split.now (invariant_at c.args.point.now c.args.abs.now) _
    (sym c.operand_reason.ensures ∙ c.in-Some.is)

pub returns-in-Some-reason_before-clause-reason : goal.returns-in-Some-reason_before-clause-reason
returns-in-Some-reason_before-clause-reason c =
    let m = view_of c.args.map.now in
    let x = invariant_at c.args.point.now c.args.abs.now in
    let i = inputs_view c.at-inputs.result in
    let l = counters_view c.of-counters.result in
    let known = known_at c.args.op m x i c.of-registers.result l c.of-registers.ensures c.of-counters.ensures c.at-inputs.ensures in
    let none : first_reason (operand_reasons (length_of c.args.op) m x.point.at) ≡ None = sym c.operand_reason.ensures ∙ c.in_default.is in
    by_before c.args.op m c.args.split.now x i c.of-registers.result l known none _
    (sym c.reason_before.ensures ∙ c.in-Some-reason_before.is)

pub returns-in-Some-reason_after-clause-reason : goal.returns-in-Some-reason_after-clause-reason
returns-in-Some-reason_after-clause-reason c =
    let m = view_of c.args.map.now in
    let x = invariant_at c.args.point.now c.args.abs.now in
    let i = inputs_view c.at-inputs.result in
    let l = counters_view c.of-counters.result in
    let known = known_at c.args.op m x i c.of-registers.result l c.of-registers.ensures c.of-counters.ensures c.at-inputs.ensures in
    let none : first_reason (operand_reasons (length_of c.args.op) m x.point.at) ≡ None = sym c.operand_reason.ensures ∙ c.in_default.is in
    let none_before : first_reason (reasons_before c.args.op m x.point.ret i.operand c.of-registers.result l) ≡ None =
    sym c.reason_before.ensures ∙ c.in_default-reason_before.is in
    let stepped =
    stepped_to c.args.op i c.of-registers.result (writes_view c.writes-writes.result) c.step.new.self c.row_of.result c.used_byte.result
    c.writes-writes.ensures c.row_of.ensures c.used_byte.ensures c.step.ensures in
    by_after c.args.op m c.args.split.now x i c.of-registers.result l known none (writes_view c.writes-writes.result) c.step.new.self
    stepped
    none_before c.icb-icb.result _ c.icb-icb.ensures (sym c.reason_after.ensures ∙ c.in-Some-reason_after.is)

pub returns-clause-safe : goal.returns-clause-safe
returns-clause-safe c =
    let m = view_of c.args.map.now in
    let x = invariant_at c.args.point.now c.args.abs.now in
    let i = inputs_view c.at-inputs.result in
    let l = counters_view c.of-counters.result in
    let known = known_at c.args.op m x i c.of-registers.result l c.of-registers.ensures c.of-counters.ensures c.at-inputs.ensures in
    let none : first_reason (operand_reasons (length_of c.args.op) m x.point.at) ≡ None = sym c.operand_reason.ensures ∙ c.in_default.is in
    let none_before : first_reason (reasons_before c.args.op m x.point.ret i.operand c.of-registers.result l) ≡ None =
    sym c.reason_before.ensures ∙ c.in_default-reason_before.is in
    let stepped =
    stepped_to c.args.op i c.of-registers.result (writes_view c.writes-writes.result) c.step.new.self c.row_of.result c.used_byte.result
    c.writes-writes.ensures c.row_of.ensures c.used_byte.ensures c.step.ensures in
    by_after c.args.op m c.args.split.now x i c.of-registers.result l known none (writes_view c.writes-writes.result) c.step.new.self
    stepped
    none_before c.icb-icb.result None c.icb-icb.ensures (sym c.reason_after.ensures ∙ c.in_default-reason_after.is)

pub returns-clause-successors : goal.returns-clause-successors
returns-clause-successors c =
    let m = view_of c.args.map.now in
    let x = invariant_at c.args.point.now c.args.abs.now in
    let i = inputs_view c.at-inputs.result in
    let l = counters_view c.of-counters.result in
    let known = known_at c.args.op m x i c.of-registers.result l c.of-registers.ensures c.of-counters.ensures c.at-inputs.ensures in
    let none : first_reason (operand_reasons (length_of c.args.op) m x.point.at) ≡ None = sym c.operand_reason.ensures ∙ c.in_default.is in
    let none_before : first_reason (reasons_before c.args.op m x.point.ret i.operand c.of-registers.result l) ≡ None =
    sym c.reason_before.ensures ∙ c.in_default-reason_before.is in
    let stepped =
    stepped_to c.args.op i c.of-registers.result (writes_view c.writes-writes.result) c.step.new.self c.row_of.result c.used_byte.result
    c.writes-writes.ensures c.row_of.ensures c.used_byte.ensures c.step.ensures in
    c.along.ensures ∙ along_is c.args.split.now _ c.step.new.self (counters_view c.after.result) (exits_view c.of-exits.result) _ _ _ _
    c.state_with-state.ensures c.tracked_bytes.ensures c.icb-icb.ensures c.ways_of-ways.ensures
    ∙ next_are c.args.op m c.args.split.now x i c.of-registers.result l known none (writes_view c.writes-writes.result) c.step.new.self
    stepped
    none_before _ c.icb-icb.result (counters_view c.after.result) (exits_view c.of-exits.result)
    (ap (λ b. if b then [] else m.vectors) c.keeps_interrupts_out.ensures) c.icb-icb.ensures
    (c.after.ensures ∙ rw c.row_of-2.ensures refl) c.of-exits.ensures

pub returns-clause-fits : goal.returns-clause-fits
returns-clause-fits c =
    rw (returns-clause-successors c) (next_fits c.args.op (view_of c.args.map.now) c.args.split.now c.args.point.now c.args.abs.now)

pub returns-clause-some : goal.returns-clause-some
returns-clause-some c =
    rw (returns-clause-successors c)
    (some_successor c.args.op c.args.map.now c.args.split.now (invariant_at c.args.point.now c.args.abs.now) (returns-clause-safe c))
