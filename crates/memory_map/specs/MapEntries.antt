-- What the map keeps of a page, by the chips that hold it.
use Rattle.std.specs.Prelude.{◌≡◌, ℕ, Bool, true, false, List, length, replicate}
use Rattle.std.specs.List.{list_all}
use Rattle.f8_spec.specs.declared.chips.PageSort.{PageSort}
use Rattle.f8_spec.specs.declared.chips.PageSort.TheVariants.{Rom, Ram, Void}
use Rattle.memory_map.specs.Holders.{OwnedPage, Few, Empty, One, Several}
use Rattle.memory_map.specs.declared.entry.Entry.{Entry}
use Rattle.memory_map.specs.declared.entry.Entry.TheVariants.{Nothing, Held, Shared}

abbrev pub entry_of : Few OwnedPage → Entry
entry_of Empty = Nothing
entry_of (One x) = Held x.1.sort x.0
entry_of Several = Shared

abbrev pub bytes_by : PageSort → List ℕ → List ℕ
bytes_by Rom rom = rom
bytes_by Ram rom = replicate 256 255
bytes_by Void rom = replicate 256 255

-- the bytes that stay in a page, and 255 where none does
abbrev pub page_bytes : Few OwnedPage → List ℕ
page_bytes Empty = replicate 256 255
page_bytes (One x) = bytes_by x.1.sort x.1.rom
page_bytes Several = replicate 256 255

-- ---- what an entry says of the holders

abbrev pub is_held : Entry → Bool
is_held Nothing = false
is_held (Held sort owner) = true
is_held Shared = true

abbrev pub is_held_once : Entry → Bool
is_held_once Nothing = false
is_held_once (Held sort owner) = true
is_held_once Shared = false

abbrev pub is_shared : Entry → Bool
is_shared Nothing = false
is_shared (Held sort owner) = false
is_shared Shared = true

-- ---- what a map keeps of all pages

-- an entry for each page, a byte for each address, and whether each page has a holder
pub record KeepsPages (pages : List Entry) (bytes : List ℕ) (everywhere : Bool) : Type 0 where
  pub each_page : length pages ≡ 256
  pub each_byte : length bytes ≡ 65536
  pub each_held : everywhere ≡ list_all is_held pages
