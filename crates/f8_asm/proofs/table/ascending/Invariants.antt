use Rattle.std.proofs.Common.{drop}
use Rattle.f8_asm.specs.Image.{ascending}
use Rattle.f8_asm.proofs.Tables.{AscendingOn}
use Rattle.f8_asm.proofs.table.ascending.Given as goal

abbrev pub invariant-loop-address : goal.invariant-loop-address
invariant-loop-address l = AscendingOn l.bytes.items l.address (drop l.address l.table) (ascending 0 l.table)
