use Rattle.memory_map.specs.Holders.{seen}
use Rattle.memory_map.proofs.Holding.{Counted}
use Rattle.memory_map.proofs.holders.Holder.of.Given as goal

abbrev pub invariant-loop-owner : goal.invariant-loop-owner
invariant-loop-owner l = Counted l.number l.chips (seen l.holder) l.owner
