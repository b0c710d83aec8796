-- What a map tells of each address and of each port, and that it is the map of some chips.
use Rattle.std.specs.Prelude.{◌≡◌, ℕ, ◌*◌, ◌/◌, ◌<◌, ◌↔◌, Bool, false, IsTrue, List, length, map, slice_index, slice_index_or, Option, Some}
use Rattle.std.specs.Prelude.{None}
use Rattle.std.specs.List.{list_all, range_with_len}
use Rattle.f8_spec.specs.ChipState.{ChipView}
use Rattle.f8_spec.specs.BusArbitration.{Seat, seat_of}
use Rattle.f8_spec.specs.declared.chips.ChipKind.{ChipKind}
use Rattle.f8_spec.specs.declared.chips.ChipKind.TheVariants.{Psu, Smi, Pio}
use Rattle.f8_spec.specs.declared.chips.PageSort.{PageSort}
use Rattle.f8_spec.specs.declared.chips.PageSort.TheVariants.{Rom as RomPage, Ram as RamPage, Void as VoidPage}
use Rattle.console_spec.specs.FreeRuns.{AreBytes}
use Rattle.console_spec.specs.FlatMemory.{sort_of, owner_of, fixed_byte, fixed_byte_by}
use Rattle.console_spec.specs.Writes.{readers, takers}
use Rattle.console_spec.specs.declared.Sort.{Sort}
use Rattle.console_spec.specs.declared.Sort.TheVariants.{Rom, Ram, Void, Nothing as NoChip, Shared as ManyChips}
use Rattle.chip_face.specs.Fitting.{fitted}
use Rattle.chip_face.specs.declared.specification.ChipSpec.{ChipSpec}
use Rattle.memory_map.specs.MapKinds.{kind_holds, kind_has_pages, is_held, IsCovered, Overlap, some_wired, some_written, told_vectors}
use Rattle.memory_map.specs.declared.entry.Entry.{Entry}
use Rattle.memory_map.specs.declared.entry.Entry.TheVariants.{Nothing, Held, Shared}
use Rattle.memory_map.specs.declared.kinds.KindPages.{KindPages}

-- what each of the 256 pages of addresses is; the byte that stays at each of the 65,536 addresses, and 255 where none does; and how many
-- chips have each of the 256 ports as a data port, and how many have it at all. Then which pages the chips of each kind hold, and whether
-- each page has one holder alone, some page has several, and some chip can interrupt. Of the chips that can interrupt, the vectors that no
-- port writes, and whether some has one that ports write.
pub record MapTable : Type 0 where
  pub pages : List Entry
  pub bytes : List ℕ
  pub readers : List ℕ
  pub takers : List ℕ
  pub psu : KindPages
  pub smi : KindPages
  pub pio : KindPages
  pub covered : Bool
  pub overlaps : Bool
  pub wired : Bool
  pub vectors : List ℕ
  pub written : Bool

abbrev pub page_sort : PageSort → Sort
page_sort RomPage = Rom
page_sort RamPage = Ram
page_sort VoidPage = Void

abbrev pub sort_by : Entry → Sort
sort_by Nothing = NoChip
sort_by (Held sort owner) = page_sort sort
sort_by Shared = ManyChips

abbrev pub owner_by : Entry → Option ℕ
owner_by Nothing = None
owner_by (Held sort owner) = Some owner
owner_by Shared = None

abbrev pub entry_at : MapTable → ℕ → Entry
entry_at m at = slice_index_or m.pages (at / 256) Nothing

-- ---- what a map tells of an address

unfoldable pub mapped_sort : MapTable → ℕ → Sort
mapped_sort m at = sort_by (entry_at m at)

unfoldable pub mapped_owner : MapTable → ℕ → Option ℕ
mapped_owner m at = owner_by (entry_at m at)

unfoldable pub mapped_byte : MapTable → ℕ → Option ℕ
mapped_byte m at = fixed_byte_by (sort_by (entry_at m at)) (Some (slice_index m.bytes at))

-- ---- what it tells of a port

unfoldable pub mapped_readers : MapTable → ℕ → ℕ
mapped_readers m port = slice_index m.readers port

unfoldable pub mapped_takers : MapTable → ℕ → ℕ
mapped_takers m port = slice_index m.takers port

-- ---- what it tells of the chips of a kind

abbrev pub kind_pages : ChipKind → MapTable → KindPages
kind_pages Psu m = m.psu
kind_pages Smi m = m.smi
kind_pages Pio m = m.pio

unfoldable pub mapped_held : MapTable → ℕ → ChipKind → Bool
mapped_held m at kind = slice_index_or (kind_pages kind m).held (at / 256) false

unfoldable pub mapped_any : MapTable → ChipKind → Bool
mapped_any m kind = (kind_pages kind m).any

-- ---- what it tells of all addresses, and of all chips

-- every address is held: the first of each page is
unfoldable pub mapped_held_everywhere : MapTable → Bool
mapped_held_everywhere m = list_all (λ number. is_held (mapped_sort m (number * 256))) (range_with_len 0 256)

unfoldable pub mapped_covered : MapTable → Bool
mapped_covered m = m.covered

unfoldable pub mapped_overlaps : MapTable → Bool
mapped_overlaps m = m.overlaps

unfoldable pub mapped_wired : MapTable → Bool
mapped_wired m = m.wired

-- the vectors, in the order of the chips
unfoldable pub mapped_vectors : MapTable → List ℕ
mapped_vectors m = m.vectors

unfoldable pub mapped_written : MapTable → Bool
mapped_written m = m.written

-- ---- the map of some chips

-- the chips of a description, fitted
abbrev pub views_of : List ChipSpec → List ChipView
views_of chips = map (fitted None) chips

abbrev pub seats_of : List ChipSpec → List Seat
seats_of chips = map seat_of (views_of chips)

-- what the map tells of an address is so of these chips
pub record Tells (m : MapTable) (chips : List ChipSpec) (at : ℕ) : Type 0 where
  pub sort : mapped_sort m at ≡ sort_of (seats_of chips) at
  pub owner : mapped_owner m at ≡ owner_of (seats_of chips) at
  pub byte : mapped_byte m at ≡ fixed_byte (views_of chips) at
  pub held : (kind : ChipKind) → mapped_held m at kind ≡ kind_holds kind (seats_of chips) at

-- and so is what it tells of a port
pub record TellsPort (m : MapTable) (chips : List ChipSpec) (port : ℕ) : Type 0 where
  pub readers : mapped_readers m port ≡ readers port (seats_of chips)
  pub takers : mapped_takers m port ≡ takers port (seats_of chips)

-- and so is what it tells of all addresses together, and of all chips
pub record TellsAll (m : MapTable) (chips : List ChipSpec) : Type 0 where
  pub any : (kind : ChipKind) → mapped_any m kind ≡ kind_has_pages kind (seats_of chips)
  pub covered : IsTrue (mapped_covered m) ↔ IsCovered (seats_of chips)
  pub overlaps : IsTrue (mapped_overlaps m) ↔ Overlap (seats_of chips)
  pub wired : mapped_wired m ≡ some_wired (views_of chips)
  pub vectors : mapped_vectors m ≡ told_vectors (views_of chips)
  pub written : mapped_written m ≡ some_written (views_of chips)

pub record IsMapOf (m : MapTable) (chips : List ChipSpec) : Type 0 where
  pub tells : (at : ℕ) → at < 65536 → Tells m chips at
  pub ports : (port : ℕ) → port < 256 → TellsPort m chips port
  pub all : TellsAll m chips

-- It has an entry for each page, a byte for each address, and counts for each port, and its bytes are bytes.
pub record IsWholeMap (m : MapTable) : Type 0 where
  pub pages : length m.pages ≡ 256
  pub bytes : length m.bytes ≡ 65536
  pub readers : length m.readers ≡ 256
  pub takers : length m.takers ≡ 256
  pub psu : length m.psu.held ≡ 256
  pub smi : length m.smi.held ≡ 256
  pub pio : length m.pio.held ≡ 256
  pub are_bytes : AreBytes m.bytes
