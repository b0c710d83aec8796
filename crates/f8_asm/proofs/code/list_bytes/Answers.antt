use Rattle.std.proofs.lemmas.Result.{err_from_is_err_and}
use Rattle.f8_asm.proofs.ListBytes.{more_at, stop_at, end_at}
use Rattle.f8_asm.proofs.code.list_bytes.Goals as goal

pub loop-operand-preserved : goal.loop-operand-preserved
loop-operand-preserved c =
    rw (c.in_ok-extend_from_slice.ensures.items, c.as_slice.ensures.value)
    (more_at _ c.args.operands.now c.loop-operand.operand-index c.operand-item.result c.in_ok-item.item.items c.loop-operand.invariant
    c.loop-operand-test.true c.operand-item.is (rw c.in_ok-operand.ensures at c.in_ok-item.ensures))

pub returns-in_err-item : goal.returns-in_err-item
returns-in_err-item c =
    let told = err_from_is_err_and c.from_residual-in_err-item.result c.from_residual-in_err-item.ensures.1 in
    rw (told.1, told.2) (stop_at _ c.args.operands.now c.loop-operand.operand-index c.operand-item.result c.in_err-item.field-0.0
    c.loop-operand.invariant c.loop-operand-test.true c.operand-item.is (rw c.in_ok-operand.ensures at c.in_err-item.ensures))

pub returns : goal.returns
returns c = end_at _ c.args.operands.now c.loop-operand.operand-index c.loop-operand.invariant c.loop-operand-test.false
