-- The memory of the chips of a program as one flat space of 65,536 addresses. That an address which two chips hold is none's, and that
-- addresses which no chip can answer at read as 255, is this project's own.
use Rattle.std.specs.Prelude.{ℕ, Bool, true, false, if◌then◌else◌, List, [], ◌∷◌, map, filter_map, slice_set, Option, Some, None}
use Rattle.std.specs.List.{enumerate_from, range_with_len}
use Rattle.f8_spec.specs.ChipState.{ChipView, sort_at, held_byte}
use Rattle.f8_spec.specs.BusArbitration.{Seat, seat_of, seat_holds}
use Rattle.f8_spec.specs.declared.chips.PageSort.{PageSort}
use Rattle.f8_spec.specs.declared.chips.PageSort.TheVariants.{Rom as RomPage, Ram as RamPage, Void as VoidPage}
use Rattle.console_spec.specs.declared.Sort.{Sort}
use Rattle.console_spec.specs.declared.Sort.TheVariants.{Rom, Ram, Void, Nothing, Shared}

-- ---- what an address is

-- the sort of an address that these pages hold, one of each chip
abbrev pub sort_among : List PageSort → Sort
sort_among [] = Nothing
sort_among (RomPage ∷ []) = Rom
sort_among (RamPage ∷ []) = Ram
sort_among (VoidPage ∷ []) = Void
sort_among (s ∷ (t ∷ later)) = Shared

-- the sort of an address: that of its page where one chip holds it, and else nobody's or several chips'
abbrev pub sort_of : List Seat → ℕ → Sort
sort_of seats at = sort_among (filter_map (λ s. sort_at s.pages at) seats)

-- the one element of a list
abbrev pub only_of : {A : Type 0} → List A → Option A
only_of [] = None
only_of (x ∷ []) = Some x
only_of (x ∷ (y ∷ later)) = None

-- the place of a chip that holds an address
abbrev pub holding : ℕ → ℕ × Seat → Option ℕ
holding at x = if seat_holds x.1 at then Some x.0 else None

-- the place of the one chip that holds an address
abbrev pub owner_of : List Seat → ℕ → Option ℕ
owner_of seats at = only_of (filter_map (holding at) (enumerate_from 0 seats))

-- ---- what it reads as

abbrev pub fixed_byte_by : Sort → Option ℕ → Option ℕ
fixed_byte_by Rom byte = byte
fixed_byte_by Ram byte = None
fixed_byte_by Void byte = byte
fixed_byte_by Nothing byte = None
fixed_byte_by Shared byte = None

-- the byte at an address of ROM, and 255 at a void one: both stay
abbrev pub fixed_byte : List ChipView → ℕ → Option ℕ
fixed_byte vs at = fixed_byte_by (sort_of (map seat_of vs) at) (only_of (filter_map (λ v. held_byte v at) vs))

abbrev pub first_byte_by : Sort → ℕ → Option ℕ → ℕ
first_byte_by Ram fill fixed = fill
first_byte_by sort fill (Some byte) = byte
first_byte_by sort fill None = 255

-- the byte in the RAM of the chip in a place, and 0 where no chip holds the address alone
abbrev pub fill_of_owner : (ℕ → ℕ) → Option ℕ → ℕ
fill_of_owner fill (Some place) = fill place
fill_of_owner fill None = 0

-- the byte at an address at power-on: in RAM it is the one that fills the RAM of its chip, by the chip's place
abbrev pub first_byte : List ChipView → (ℕ → ℕ) → ℕ → ℕ
first_byte vs fill at =
    first_byte_by (sort_of (map seat_of vs) at) (fill_of_owner fill (owner_of (map seat_of vs) at)) (fixed_byte vs at)

-- the memory at power-on
unfoldable pub first_memory : List ChipView → (ℕ → ℕ) → List ℕ
first_memory vs fill = map (first_byte vs fill) (range_with_len 0 65536)

-- ---- stores

abbrev pub is_ram_sort : Sort → Bool
is_ram_sort Rom = false
is_ram_sort Ram = true
is_ram_sort Void = false
is_ram_sort Nothing = false
is_ram_sort Shared = false

-- the memory after a store, which is lost where the address is no RAM
abbrev pub stored_at : List Seat → ℕ → ℕ → List ℕ → List ℕ
stored_at seats at byte memory = if is_ram_sort (sort_of seats at) then slice_set memory at byte else memory
