use Rattle.std.proofs.lemmas.Result.{err_from_is_err_and}
use Rattle.f8_link.proofs.ListPiece.{more_at, stop_at, end_at}
use Rattle.f8_link.proofs.pieces.list_piece.Goals as goal

pub loop-operand-preserved : goal.loop-operand-preserved
loop-operand-preserved c =
    rw c.in_ok-join.ensures
    (more_at _ c.args.operands.now c.loop-operand.operand-index c.operand-item.result c.in_ok-item_piece.field-0 c.loop-operand.invariant
    c.loop-operand-test.true c.operand-item.is (rw (c.in_ok-operand.ensures, c.bytes.ensures) at c.in_ok-item_piece.ensures))

pub returns-in_err-item_piece : goal.returns-in_err-item_piece
returns-in_err-item_piece c =
    let told = err_from_is_err_and c.from_residual-in_err-item_piece.result c.from_residual-in_err-item_piece.ensures.1 in
    rw (told.1, told.2) (stop_at _ c.args.operands.now c.loop-operand.operand-index c.operand-item.result c.in_err-item_piece.field-0.0
    c.loop-operand.invariant c.loop-operand-test.true c.operand-item.is (rw (c.in_ok-operand.ensures, c.bytes.ensures) at c.in_err-item_piece.ensures))

pub returns : goal.returns
returns c = end_at _ c.args.operands.now c.loop-operand.operand-index c.loop-operand.invariant c.loop-operand-test.false
