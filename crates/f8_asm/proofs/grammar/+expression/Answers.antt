use Rattle.std.proofs.Common.{sym, ap, arith, length}
use Rattle.std.proofs.lemmas.Result.{err_from_is_err_and}
use Rattle.std.proofs.lemmas.List.{nil_from_length}
use Rattle.std.proofs.lemmas.Bool.Decides.{nat_tests}
use Rattle.f8_asm.specs.Formulas.{formulas}
use Rattle.f8_asm.proofs.Chain.{chain_goes, chain_stops, chain_stopped, chain_ends}
use Rattle.f8_asm.proofs.Depth.{opened_none, opened_minus, opened_low, opened_high, opened_parenthesis, operand_mark}
use Rattle.f8_asm.proofs.grammar.+expression.Goals as goal

pub level-returns-in_default-operator_at-clause-value : goal.level-returns-in_default-operator_at-clause-value
level-returns-in_default-operator_at-clause-value t c =
    let front = c.in-Some.ensures.cases.0 in
    rw front (chain_stops _ _ _ (rw front at c.loop-first.invariant.on) c.in_default-operator_at.ensures)

pub level-returns-in_err-right-clause-value : goal.level-returns-in_err-right-clause-value
level-returns-in_err-right-clause-value t c =
    let front = c.in-Some.ensures.cases.0 in
    let told = err_from_is_err_and c.from_residual-in_err-right.result c.from_residual-in_err-right.ensures.1 in
    rw (told.1, told.2) (chain_stopped _ _ _
    (rw front at c.loop-first.invariant.on) c.in-Some-operator_at.operator c.in_err-right.field-0.0
    c.in-Some-operator_at.ensures c.in_err-right.ensures.value)

pub level-loop-first-preserved : goal.level-loop-first-preserved
level-loop-first-preserved t c =
    let front = c.in-Some.ensures.cases.0 in
    let more = chain_goes _ _ _ (rw front at c.loop-first.invariant.on) c.in-Some-operator_at.operator
    c.in_ok-right.right c.in_ok-right.after.now c.in-Some-operator_at.ensures (sym c.in_ok-right.ensures.value)
    c.in_ok-right.ensures.consumes in
    record { on = rw c.in_ok-left-2.ensures more; less = omega (arith, ap length front, c.in_ok-right.ensures.consumes) }

pub level-returns-clause-value : goal.level-returns-clause-value
level-returns-clause-value t c =
    let none = nil_from_length c.loop-first.rest.now c.in_default.ensures.cases in
    rw none (chain_ends _ _ _ (rw none at c.loop-first.invariant.on))

pub mark_operand-returns-then-depth-eq0-clause-value : goal.mark_operand-returns-then-depth-eq0-clause-value
mark_operand-returns-then-depth-eq0-clause-value t c =
    rw c.form.ensures (sym (opened_none _ c.args.depth c.args.column c.args.mark c.args.tokens.now (grind (arith, nat_tests))
    (grind (arith, nat_tests))))

pub mark_operand-returns-in-45-clause-value : goal.mark_operand-returns-in-45-clause-value
mark_operand-returns-in-45-clause-value t c =
    let is = opened_minus formulas c.args.depth c.args.column c.args.mark c.args.tokens.now (grind (arith, nat_tests)) (omega arith) in
    rw (← is) c.behind_prefix.ensures.value

pub mark_operand-returns-in-60-clause-value : goal.mark_operand-returns-in-60-clause-value
mark_operand-returns-in-60-clause-value t c =
    let is = opened_low formulas c.args.depth c.args.column c.args.mark c.args.tokens.now (grind (arith, nat_tests)) (omega arith) in
    rw (← is) c.behind_prefix-in-60.ensures.value

pub mark_operand-returns-in-62-clause-value : goal.mark_operand-returns-in-62-clause-value
mark_operand-returns-in-62-clause-value t c =
    let is = opened_high formulas c.args.depth c.args.column c.args.mark c.args.tokens.now (grind (arith, nat_tests)) (omega arith) in
    rw (← is) c.behind_prefix-in-62.ensures.value

pub mark_operand-returns-in-40-clause-value : goal.mark_operand-returns-in-40-clause-value
mark_operand-returns-in-40-clause-value t c =
    let is = opened_parenthesis formulas c.args.depth c.args.column c.args.mark c.args.tokens.now (grind (arith, nat_tests)) (omega arith) in
    rw (← is) c.parenthesis_expression.ensures.value

pub operand-returns-in-Mark-clause-value : goal.operand-returns-in-Mark-clause-value
operand-returns-in-Mark-clause-value t c =
    let is = operand_mark formulas c.args.depth c.in-Mark.mark c.in-Some.first.now c.in-Some.behind.now (sym c.in-Mark.is) in
    rw (c.in-Some.ensures.cases.0, ← is) c.mark_operand.ensures.value
