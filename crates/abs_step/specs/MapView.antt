-- What the checker knows of the chips: what a map tells of addresses, ports and kinds of chip, and that it is so of some chips.
use Rattle.std.specs.Prelude.{◌≡◌, ℕ, ◌<◌, ◌*◌, nat_lt, Bool, true, false, ◌&&◌, not, if◌then◌else◌, List, Option, Some, None, is_some}
use Rattle.std.specs.List.{AllByRecursion, Contains, list_any, list_all, range_with_len}
use Rattle.f8_spec.specs.ChipState.{has_counters, has_fixed_vector}
use Rattle.f8_spec.specs.BusArbitration.{Seat, seat_has_ram, seat_holds}
use Rattle.f8_spec.specs.declared.chips.ChipKind.{ChipKind}
use Rattle.f8_spec.specs.declared.chips.ChipKind.TheVariants.{Smi}
use Rattle.console_spec.specs.FlatMemory.{sort_of, is_ram_sort, fixed_byte}
use Rattle.console_spec.specs.Writes.{readers, takers}
use Rattle.console_spec.specs.declared.Sort.{Sort}
use Rattle.console_spec.specs.declared.Sort.TheVariants.{Rom, Ram, Void, Nothing, Shared}
use Rattle.chip_face.specs.declared.specification.ChipSpec.{ChipSpec}
use Rattle.memory_map.specs.MapOf.{MapTable, mapped_sort, mapped_byte, mapped_held, mapped_readers, mapped_takers, mapped_any}
use Rattle.memory_map.specs.MapOf.{mapped_overlaps, mapped_vectors, mapped_written, views_of, seats_of, IsMapOf, IsWholeMap}
use Rattle.memory_map.specs.MapKinds.{is_held, is_held_once, kind_holds, kind_has_pages, some_written, told_vectors}

-- by address what it is, the byte that stays there, and whether a chip of a kind holds it; how many chips have a port as a data port, and
-- how many have it at all; whether some chip of a kind has pages; and whether two chips hold an address. Of the chips that can interrupt,
-- the vectors that no port writes, and whether some has one that ports write.
pub record MapView : Type 0 where
  pub sort : ℕ → Sort
  pub byte : ℕ → Option ℕ
  pub held : ℕ → ChipKind → Bool
  pub readers : ℕ → ℕ
  pub takers : ℕ → ℕ
  pub any : ChipKind → Bool
  pub overlaps : Bool
  pub vectors : List ℕ
  pub written : Bool

abbrev pub is_shared : Sort → Bool
is_shared Rom = false
is_shared Ram = false
is_shared Void = false
is_shared Nothing = false
is_shared Shared = true

-- every address is held: the first of each page is
unfoldable pub holds_every_address : MapView → Bool
holds_every_address m = list_all (λ number. is_held (m.sort (number * 256))) (range_with_len 0 256)

-- a chip with RAM is a 3853
abbrev pub HasOwnRam : Seat → Type 0
HasOwnRam s = (at : ℕ) → seat_has_ram s at ≡ true → s.kind ≡ Smi

-- a chip that holds an address has counters, by which it answers there
abbrev pub HoldsByCounters : Seat → Type 0
HoldsByCounters s = (at : ℕ) → seat_holds s at ≡ true → has_counters s.kind ≡ true

-- where a chip can interrupt, and no port writes its vector, that is among these
abbrev pub HasVectorAmong : List ℕ → Seat → Type 0
HasVectorAmong vectors s = s.wired ≡ true → has_fixed_vector s.kind ≡ true → Contains vectors s.vector

-- a chip can interrupt, and ports write its vector
abbrev pub is_seat_written : Seat → Bool
is_seat_written s = s.wired && not (has_fixed_vector s.kind)

-- The map is right of some chips. It tells the byte of each address that one chip alone holds and no store changes, and none that a store
-- changes. Only 3853s have RAM, and no chip without counters holds an address. It may tell more vectors than the chips have.
pub record IsViewOf (m : MapView) (seats : List Seat) : Type 0 where
  pub sort : (at : ℕ) → at < 65536 → m.sort at ≡ sort_of seats at
  pub stays : (at byte : ℕ) → at < 65536 → m.byte at ≡ Some byte → is_ram_sort (sort_of seats at) ≡ false
  pub told : (at : ℕ) → at < 65536 → is_held_once (m.sort at) ≡ true → is_ram_sort (m.sort at) ≡ false → is_some (m.byte at) ≡ true
  pub held : (at : ℕ) → at < 65536 → (kind : ChipKind) → m.held at kind ≡ kind_holds kind seats at
  pub readers : (port : ℕ) → port < 256 → m.readers port ≡ readers port seats
  pub takers : (port : ℕ) → port < 256 → m.takers port ≡ takers port seats
  pub any : (kind : ChipKind) → m.any kind ≡ kind_has_pages kind seats
  pub overlaps : (at : ℕ) → at < 65536 → sort_of seats at ≡ Shared → m.overlaps ≡ true
  pub vectors : AllByRecursion (HasVectorAmong m.vectors) seats
  pub written : m.written ≡ list_any is_seat_written seats
  pub ram : AllByRecursion HasOwnRam seats
  pub counted : AllByRecursion HoldsByCounters seats

-- the view of a map
abbrev pub view_of : MapTable → MapView
view_of m = record {
  sort = mapped_sort m;
  byte = mapped_byte m;
  held = mapped_held m;
  readers = mapped_readers m;
  takers = mapped_takers m;
  any = mapped_any m;
  overlaps = mapped_overlaps m;
  vectors = mapped_vectors m;
  written = mapped_written m;
}

-- ---- what is known of the chips of a description

-- some page has several holders
abbrev pub has_shared_page : List Seat → Bool
has_shared_page seats = list_any (λ number. is_shared (sort_of seats (number * 256))) (range_with_len 0 256)

-- of each address below 65,536, of each port below 256, of each kind of chip, and of all of them
unfoldable pub chips_view : List ChipSpec → MapView
chips_view chips = record {
  sort = λ at. if nat_lt at 65536 then sort_of (seats_of chips) at else Nothing;
  byte = λ at. if nat_lt at 65536 then fixed_byte (views_of chips) at else None;
  held = λ at kind. nat_lt at 65536 && kind_holds kind (seats_of chips) at;
  readers = λ port. if nat_lt port 256 then readers port (seats_of chips) else 0;
  takers = λ port. if nat_lt port 256 then takers port (seats_of chips) else 0;
  any = λ kind. kind_has_pages kind (seats_of chips);
  overlaps = has_shared_page (seats_of chips);
  vectors = told_vectors (views_of chips);
  written = some_written (views_of chips);
}

-- ---- the law

pub record MapViewLaw : Type 0 where
  -- a map of some chips is right of them
  pub view : (m : MapTable) (chips : List ChipSpec) → IsMapOf m chips → IsViewOf (view_of m) (seats_of chips)
  -- what is known of them is right of them, and it is just what each of their maps tells
  pub right : (chips : List ChipSpec) → IsViewOf (chips_view chips) (seats_of chips)
  pub told : (m : MapTable) (chips : List ChipSpec) → IsMapOf m chips → IsWholeMap m → view_of m ≡ chips_view chips
