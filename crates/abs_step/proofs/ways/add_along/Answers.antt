-- One vector after another is added, until none is left.
use Rattle.std.proofs.Common.{◌+◌, refl, sym, ap, ◌∙◌, arith}
use Rattle.memory_map.specs.MapOf.{mapped_vectors}
use Rattle.abs_step.specs.WaysOn.{vector_ways, with_ways}
use Rattle.abs_step.proofs.AddedWays.{along_way, none_left, vectors_more}
use Rattle.abs_step.proofs.ways.add_along.Goals as goal

pub loop-place-preserved : goal.loop-place-preserved
loop-place-preserved c = record {
  list =
      c.add_vector.ensures.list ∙ ap (with_ways (vector_ways c.args.exit c.in-Some.vector)) c.loop-place.invariant.list
      ∙ vectors_more c.args.exit (mapped_vectors c.args.map.now) c.loop-place.place (c.loop-place.place + 1) c.in-Some.vector
      c.add.new.ways.items refl (sym c.vector.ensures.vector ∙ c.in-Some.is);
  count = omega (arith, c.add_vector.ensures.count, c.loop-place.invariant.count);
  few = λ some. c.vector.ensures.few;
}

pub returns-clause-list : goal.returns-clause-list
returns-clause-list c =
    along_way c.args.kept_out (mapped_vectors c.args.map.now) _ c.args.icb c.args.exit _ c.add.new.ways.items c.args.ways.now.items
    c.loop-place.ways.items c.if-kept_out.false
    (none_left (mapped_vectors c.args.map.now) c.loop-place.place (omega (arith, c.loop-place.invariant.few (omega arith))))
    refl c.add.ensures.list c.loop-place.invariant.list
