use Rattle.std.proofs.Common.{drop, map}
use Rattle.f8_asm.specs.Statements.{operand_valued}
use Rattle.f8_link.specs.Evaluation.{formula_found}
use Rattle.f8_link.specs.Pieces.{list_piece}
use Rattle.f8_link.proofs.ListPiece.{PieceOn}
use Rattle.f8_link.proofs.pieces.list_piece.Given as goal

-- the piece found and that of the items that follow make the whole, which has room
abbrev pub invariant-loop-operand : goal.invariant-loop-operand
invariant-loop-operand l =
    let value = operand_valued (formula_found l.scope.names.now l.scope.imports.now l.scope.offset) in
    PieceOn l.scope.offset l.size l.piece (map value (drop l.operand-index l.operands)) (list_piece l.scope.offset l.size (map value l.operands))
