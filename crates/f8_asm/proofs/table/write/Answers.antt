use Rattle.std.proofs.Common.{◌+◌, arith, get_or, Some}
use Rattle.std.proofs.lemmas.List.{set_past}
use Rattle.f8_asm.proofs.Tables.{written_more}
use Rattle.f8_asm.proofs.table.write.Goals as goal
use Rattle.f8_asm.proofs.table.write.Goals.{then-at-k, else-at-k}

pub loop-k-preserved : goal.loop-k-preserved
loop-k-preserved c =
    let more = written_more c.loop-k.table (c.args.at) c.loop-k.k c.args.bytes.now _ c.loop-k.invariant c.loop-k-test.true in
    elim c.if-at-k.branch [
      | then-at-k w ↦ rw w.table-is more
      | else-at-k w ↦ rw (w.table-is, ← set_past c.loop-k.table (c.args.at + c.loop-k.k) (Some (get_or c.args.bytes.now c.loop-k.k 0)) (omega arith)) more
    ]
