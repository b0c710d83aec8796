use Rattle.std.proofs.Common.{drop, map}
use Rattle.f8_asm.specs.declared.values.Outcome.TheVariants.{OutOfRange}
use Rattle.f8_asm.specs.Bytes.{list_bytes}
use Rattle.f8_asm.specs.Evaluation.{values}
use Rattle.f8_asm.specs.Formulas.{formula_value}
use Rattle.f8_asm.specs.Statements.{operand_valued}
use Rattle.f8_asm.proofs.ListBytes.{BytesOn}
use Rattle.f8_asm.proofs.code.list_bytes.Given as goal

-- the bytes found and those of the items that follow make the whole
abbrev pub invariant-loop-operand : goal.invariant-loop-operand
invariant-loop-operand l =
    let value = operand_valued (formula_value OutOfRange (values l.scope.symbols.now l.scope.address)) in
    BytesOn l.size l.bytes.items (map value (drop l.operand-index l.operands)) (list_bytes l.size (map value l.operands))
