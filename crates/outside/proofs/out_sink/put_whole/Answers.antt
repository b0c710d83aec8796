-- What a write took is behind what was taken before it, and the count of failures stands.
use Rattle.std.proofs.Common.{◌∙◌}
use Rattle.outside.proofs.Writing.{written_more}
use Rattle.outside.proofs.out_sink.put_whole.Goals as goal

pub loop-rest-preserved : goal.loop-rest-preserved
loop-rest-preserved g c = (
  rw c.split_at.ensures.back (written_more _ _ _ _ _ _ c.loop-rest.invariant.0 c.in_ok-taken.ensures.bytes),
  c.in_ok-taken.ensures.cause ∙ c.loop-rest.invariant.1,
)
