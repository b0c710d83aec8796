-- So many ports are counted right.
use Rattle.std.proofs.Common.{◌≡◌, ℕ, ◌<◌, length}
use Rattle.std.specs.Prelude.{slice_index}
use Rattle.console_spec.specs.Writes.{readers}
use Rattle.memory_map.specs.MapOf.{seats_of}
use Rattle.memory_map.proofs.ports.all_readers.Given as goal

abbrev pub invariant-loop-port : goal.invariant-loop-port
invariant-loop-port l = record {
  size : length l.counts ≡ 256;
  count : (port : ℕ) → port < l.port → slice_index l.counts port ≡ readers port (seats_of l.chips);
}
