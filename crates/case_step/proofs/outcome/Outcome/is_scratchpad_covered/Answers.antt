-- A register that isn't covered, or all that are.
use Rattle.std.proofs.Common.{◌≡◌, map, sym, ◌∙◌, arith}
use Rattle.std.proofs.lemmas.List.{length-map}
use Rattle.abs_domain.specs.StateView.{state_of}
use Rattle.value_sets.specs.SetViews.{byte_values}
use Rattle.case_step.specs.EntryViews.{entry_view}
use Rattle.case_step.specs.Results.{register_after}
use Rattle.case_step.proofs.Outcomes.{each_within, each_within_not}
use Rattle.case_step.proofs.outcome.Outcome.is_scratchpad_covered.Goals as goal

pub returns-then-not-is_register_covered : goal.returns-then-not-is_register_covered
returns-then-not-is_register_covered c =
    let o = c.args.self.now in
    let after = register_after o.op (entry_view o.entry.now) (state_of o.before.now) (state_of o.after.now) in
    let number = c.loop-number.number in
    sym (each_within_not after 0 64 (map byte_values c.args.upper.now.regs) number number (omega arith) (omega arith)
    (length-map c.args.upper.now.regs byte_values ∙ c.args.upper.now.all_registers)
    (sym c.is_register_covered.ensures ∙ c.if-not-is_register_covered.true))

pub returns : goal.returns
returns c =
    let o = c.args.self.now in
    let after = register_after o.op (entry_view o.entry.now) (state_of o.before.now) (state_of o.after.now) in
    sym (each_within after 0 64 (map byte_values c.args.upper.now.regs)
    (length-map c.args.upper.now.regs byte_values ∙ c.args.upper.now.all_registers)
    (λ k number small same. let here : number ≡ k = omega arith in rw here (c.loop-number.invariant k (omega arith))))
