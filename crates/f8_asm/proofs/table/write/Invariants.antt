use Rattle.std.proofs.Common.{◌+◌, drop}
use Rattle.f8_asm.specs.PassThree.{table_with}
use Rattle.f8_asm.proofs.Tables.{WrittenOn}
use Rattle.f8_asm.proofs.table.write.Given as goal

abbrev pub invariant-loop-k : goal.invariant-loop-k
invariant-loop-k l = WrittenOn l.table (l.at + l.k) (drop l.k l.bytes) (table_with l.fn.table l.at l.bytes)
