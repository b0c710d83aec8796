-- A served step keeps what the index stands for.
use Rattle.std.proofs.Common.{refl, rules}
use Rattle.data_bus.proofs.Standing.{stands-after}
use Rattle.data_bus.proofs.indexed.hear_all.Goals as goal

pub returns-clause-stands : goal.returns-clause-stands
returns-clause-stands g c =
    stands-after c.args.cycle.now.romc c.args.cycle.now.long c.args.cycle.now.first c.args.byte c.args.index.now c.follow.new.self
    c.args.probe.now c.hear.new.self _ _ _ (search rules) refl c.settle_all.ensures.settled
    c.hear.ensures c.follow.ensures c.requires.stands
