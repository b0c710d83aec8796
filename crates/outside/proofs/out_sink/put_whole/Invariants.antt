-- a write takes something of what is left, or the loop ends
use Rattle.std.proofs.Common.{◌≡◌, length}
use Rattle.outside.proofs.Writing.{WrittenSoFar}
use Rattle.outside.proofs.out_sink.put_whole.Given as goal

abbrev pub invariant-loop-rest : goal.invariant-loop-rest
invariant-loop-rest g l =
    WrittenSoFar (g.W.Write.contents l.fn.out.writer) (g.W.Write.contents l.out.writer) l.piece l.rest
    × (l.out.failures ≡ l.fn.out.failures)

abbrev pub decreases-loop-rest : goal.decreases-loop-rest
decreases-loop-rest g l = length l.rest
