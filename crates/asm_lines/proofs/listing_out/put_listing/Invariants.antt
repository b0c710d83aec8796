-- The text before the rest is written, and no fault was met.
use Rattle.std.proofs.Common.{length}
use Rattle.outside.proofs.SinkLaws.{PutSoFar}
use Rattle.asm_lines.proofs.listing_out.put_listing.Given as goal

abbrev pub invariant-loop-rest : goal.invariant-loop-rest
invariant-loop-rest g l =
    PutSoFar (g.K.Sink.output l.fn.sink) (g.K.Sink.output l.sink) l.fn.text l.rest

abbrev pub decreases-loop-rest : goal.decreases-loop-rest
decreases-loop-rest g l = length l.rest
