-- What holds of the chips of one kind, of all addresses together, and of all chips.
use Rattle.std.specs.Prelude.{ℕ, ◌/◌, ◌<◌, ◌≡◌, Bool, true, false, ◌&&◌, not, if◌then◌else◌, List, [], ◌∷◌, filter_map, is_some}
use Rattle.std.specs.Prelude.{Option, Some, None}
use Rattle.std.specs.List.{list_any}
use Rattle.f8_spec.specs.ChipState.{ChipView, has_fixed_vector, place_of, same_kind}
use Rattle.f8_spec.specs.BusArbitration.{Seat}
use Rattle.f8_spec.specs.declared.chips.ChipKind.{ChipKind}
use Rattle.f8_spec.specs.declared.chips.Page.{Page}
use Rattle.console_spec.specs.FlatMemory.{sort_of}
use Rattle.console_spec.specs.declared.Sort.{Sort}
use Rattle.console_spec.specs.declared.Sort.TheVariants.{Rom, Ram, Void, Nothing, Shared}

-- ---- kinds

-- a chip is of a kind, and holds the page of a number
abbrev pub has_kind_and_page : ChipKind → ℕ → Seat → Bool
has_kind_and_page kind number s = same_kind kind s.kind && is_some (place_of s.pages number)

-- some chip of a kind holds an address
abbrev pub kind_holds : ChipKind → List Seat → ℕ → Bool
kind_holds kind seats at = list_any (has_kind_and_page kind (at / 256)) seats

abbrev pub has_pages : List Page → Bool
has_pages [] = false
has_pages (p ∷ ps) = true

abbrev pub has_kind_and_pages : ChipKind → Seat → Bool
has_kind_and_pages kind s = same_kind kind s.kind && has_pages s.pages

-- some chip of a kind has a page
abbrev pub kind_has_pages : ChipKind → List Seat → Bool
kind_has_pages kind seats = list_any (has_kind_and_pages kind) seats

-- ---- all addresses

-- one chip or more holds an address
abbrev pub is_held : Sort → Bool
is_held Rom = true
is_held Ram = true
is_held Void = true
is_held Nothing = false
is_held Shared = true

abbrev pub is_held_once : Sort → Bool
is_held_once Rom = true
is_held_once Ram = true
is_held_once Void = true
is_held_once Nothing = false
is_held_once Shared = false

-- one chip alone holds each address
abbrev pub IsCovered : List Seat → Type 0
IsCovered seats = (at : ℕ) → at < 65536 → is_held_once (sort_of seats at) ≡ true

-- two chips hold an address
abbrev pub Overlap : List Seat → Type 0
Overlap seats = (at : ℕ) × (at < 65536) × (sort_of seats at ≡ Shared)

-- ---- all chips

-- some chip can interrupt
abbrev pub some_wired : List ChipView → Bool
some_wired vs = list_any (λ v. v.wired) vs

-- the vector of a chip that can interrupt, where no port writes it
abbrev pub told_vector : ChipView → Option ℕ
told_vector v = if v.wired && has_fixed_vector v.kind then Some v.vector else None

-- those of all such chips, in the order of the chips
abbrev pub told_vectors : List ChipView → List ℕ
told_vectors vs = filter_map told_vector vs

-- a chip can interrupt, and its vector is written by ports
abbrev pub is_written : ChipView → Bool
is_written v = v.wired && not (has_fixed_vector v.kind)

abbrev pub some_written : List ChipView → Bool
some_written vs = list_any is_written vs
