-- So many ports are told right.
use Rattle.std.proofs.Common.{◌≡◌, ℕ, ◌<◌, length, false}
use Rattle.std.specs.Prelude.{◌==◌, slice_index_or}
use Rattle.memory_map.specs.MapOf.{mapped_takers}
use Rattle.f8_isa.proofs.ports.writable_ports.Given as goal

abbrev pub invariant-loop-port : goal.invariant-loop-port
invariant-loop-port l = record {
  size : length l.writable ≡ 256;
  port : (port : ℕ) → port < l.port → slice_index_or l.writable port false ≡ (mapped_takers l.map port == 1);
}
