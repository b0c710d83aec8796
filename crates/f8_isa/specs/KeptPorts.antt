-- The ports at power-on, over the chips that a map tells of.
use Rattle.std.specs.Prelude.{◌≡◌, ℕ, ◌<◌, Bool, false, ◌==◌, List, replicate, slice_index_or}
use Rattle.memory_map.specs.MapOf.{MapTable, mapped_readers, mapped_takers}
use Rattle.f8_isa.specs.Ports.{PortState}

-- the ports that are data ports of exactly one chip
pub record AreReadable (map : MapTable) (readable : List Bool) : Type 0 where
  pub port : (port : ℕ) → port < 256 → slice_index_or readable port false ≡ (mapped_readers map port == 1)

-- the ports that exactly one chip has
pub record AreWritable (map : MapTable) (writable : List Bool) : Type 0 where
  pub port : (port : ℕ) → port < 256 → slice_index_or writable port false ≡ (mapped_takers map port == 1)

-- latches and key bytes are 0
pub record AreFirstPorts (map : MapTable) (p : PortState) : Type 0 where
  pub latches : p.latches ≡ replicate 256 0
  pub keys : p.keys ≡ replicate 256 0
  pub readable : AreReadable map p.readable
  pub writable : AreWritable map p.writable
