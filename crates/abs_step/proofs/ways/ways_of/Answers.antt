-- Where there are two exits, both are added.
use Rattle.std.proofs.Common.{[]}
use Rattle.std.specs.Prelude.{if◌then◌else◌}
use Rattle.memory_map.specs.MapOf.{mapped_vectors}
use Rattle.abs_step.proofs.AddedWays.{two_exits}
use Rattle.abs_step.proofs.ways.ways_of.Goals as goal

pub returns-in-Two : goal.returns-in-Two
returns-in-Two c =
    rw c.in-Two.is
    (two_exits (if c.args.kept_out then [] else mapped_vectors c.args.map.now) c.args.icb c.in-Two.first c.in-Two.second c.new-ways.result.items
    c.add_along-in-Two.new.ways.items
    c.add_along-in-Two-2.new.ways.items c.new-ways.ensures c.add_along-in-Two.ensures.list c.add_along-in-Two-2.ensures.list)
