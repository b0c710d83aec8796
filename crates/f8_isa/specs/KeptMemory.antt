-- The flat memory, and that it is the one at power-on that a map tells.
use Rattle.std.specs.Prelude.{◌≡◌, ℕ, ◌<◌, Bool, List, length, slice_index, unwrap_or}
use Rattle.f8_spec.specs.Powers.{said_of}
use Rattle.f8_spec.specs.declared.chips.PowerOn.{PowerOn}
use Rattle.console_spec.specs.FlatMemory.{fill_of_owner, first_byte_by, is_ram_sort}
use Rattle.memory_map.specs.MapOf.{MapTable, mapped_sort, mapped_owner, mapped_byte}
use Rattle.f8_isa.specs.IsaState.{is_ram_page}

pub record KeptMemory : Type 0 where
  pub bytes : List ℕ
  pub ram_pages : List Bool

-- the byte in all RAM of the chip in a place of the description
abbrev pub placed_fill : ℕ → List PowerOn → ℕ → ℕ
placed_fill fill powers place = unwrap_or (said_of powers place).fill fill

-- the byte at an address at power-on, by the byte in the RAM of each chip
abbrev pub mapped_first : MapTable → (ℕ → ℕ) → ℕ → ℕ
mapped_first map fill at = first_byte_by (mapped_sort map at) (fill_of_owner fill (mapped_owner map at)) (mapped_byte map at)

-- the first so many bytes at power-on
pub record AreFirstBytes (map : MapTable) (fill : ℕ → ℕ) (bytes : List ℕ) (count : ℕ) : Type 0 where
  pub size : length bytes ≡ count
  pub byte : (at : ℕ) → at < count → slice_index bytes at ≡ mapped_first map fill at

-- the pages that are RAM
pub record AreRamPages (map : MapTable) (ram_pages : List Bool) : Type 0 where
  pub page : (at : ℕ) → at < 65536 → is_ram_page ram_pages at ≡ is_ram_sort (mapped_sort map at)

pub record IsFirstMemory (map : MapTable) (fill : ℕ → ℕ) (memory : KeptMemory) : Type 0 where
  pub bytes : AreFirstBytes map fill memory.bytes 65536
  pub ram : AreRamPages map memory.ram_pages
