-- So many ports are told right.
use Rattle.std.proofs.Common.{◌≡◌, ℕ, ◌<◌, length, false}
use Rattle.std.specs.Prelude.{◌==◌, slice_index_or}
use Rattle.memory_map.specs.MapOf.{mapped_readers}
use Rattle.f8_isa.proofs.ports.readable_ports.Given as goal

abbrev pub invariant-loop-port : goal.invariant-loop-port
invariant-loop-port l = record {
  size : length l.readable ≡ 256;
  port : (port : ℕ) → port < l.port → slice_index_or l.readable port false ≡ (mapped_readers l.map port == 1);
}
