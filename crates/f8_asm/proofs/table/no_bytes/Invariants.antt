use Rattle.std.proofs.Common.{◌≡◌, replicate, None}
use Rattle.f8_asm.proofs.table.no_bytes.Given as goal

-- so many slots
abbrev pub invariant-loop-count : goal.invariant-loop-count
invariant-loop-count l = l.table.items ≡ replicate l._count None
