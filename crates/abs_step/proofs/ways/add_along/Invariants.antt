-- The vectors so far are added, two ways for each at most; and there are no more than chips.
use Rattle.std.proofs.Common.{◌≡◌, ◌<◌, ◌≤◌, ◌+◌, ◌*◌, length, take}
use Rattle.std.specs.Prelude.{flat_map}
use Rattle.arrayvec.specs.ArrayVec.{array_vec_len}
use Rattle.memory_map.specs.MapOf.{mapped_vectors}
use Rattle.abs_step.specs.WaysOn.{vector_ways, with_ways}
use Rattle.abs_step.proofs.ways.add_along.Given as goal

abbrev pub invariant-loop-place : goal.invariant-loop-place
invariant-loop-place l = record {
  list : l.ways.items ≡ with_ways (flat_map (vector_ways l.exit) (take l.place (mapped_vectors l.map))) l.initial.ways.items;
  count : array_vec_len l.ways ≤ array_vec_len l.initial.ways + 2 * l.place;
  few : 0 < l.place → length (mapped_vectors l.map) ≤ 16;
}
