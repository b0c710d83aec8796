-- Lists of an index worked out by hand, computed from the definitions.
use Rattle.std.proofs.Common.{◌≡◌, ℕ, true, false, List, [], ◌∷◌, ◌++◌, replicate, refl}
use Rattle.std.specs.Prelude.{Some}
use Rattle.f8_spec.specs.BusArbitration.{Seat}
use Rattle.f8_spec.specs.declared.bus.BusRule.TheVariants.{Read, Store, PortRead}
use Rattle.f8_spec.specs.declared.chips.ChipKind.TheVariants.{Psu, Smi, Pio}
use Rattle.f8_spec.specs.declared.chips.Page.{Page}
use Rattle.f8_spec.specs.declared.chips.PageSort.TheVariants.{Rom, Ram}
use Rattle.data_bus.specs.PageIndex.{flagged, holding, listed}
use Rattle.data_bus.specs.declared.page_sockets.Sockets.TheVariants.{NoOne, One, Several}

-- ---- sockets

flags_from_three : flagged 3 (true ∷ false ∷ true ∷ []) ≡ 3 ∷ 5 ∷ []
flags_from_three = refl

no_socket : listed NoOne ≡ []
no_socket = refl

one_socket : listed (One 12) ≡ 12 ∷ []
one_socket = refl

first_and_last : listed (Several (true ∷ replicate 14 false ++ true ∷ [])) ≡ 0 ∷ 15 ∷ []
first_and_last = refl

-- ---- chips

-- a 3851 with the pages 0 to 3, a 3861, and a 3853 with ROM in page 3 and RAM in page 28
abbrev rom_page : ℕ → Page
rom_page number = record { number = number; sort = Rom }

abbrev three : List Seat
three =
    record { kind = Psu; pages = rom_page 0 ∷ rom_page 1 ∷ rom_page 2 ∷ rom_page 3 ∷ []; ports = Some 4; wired = false; vector = 0 }
    ∷ record { kind = Pio; pages = []; ports = Some 8; wired = false; vector = 0 }
    ∷ record { kind = Smi; pages = rom_page 3 ∷ record { number = 0x28; sort = Ram } ∷ []; ports = Some 12; wired = false; vector = 0 } ∷ []

held_once : holding Read 0x0200 0 three ≡ 0 ∷ []
held_once = refl

held_twice : holding Read 0x03FF 0 three ≡ 0 ∷ 2 ∷ []
held_twice = refl

held_by_none : holding Read 0x0400 0 three ≡ []
held_by_none = refl

taken_in_ram : holding Store 0x28FF 0 three ≡ 2 ∷ []
taken_in_ram = refl

not_taken_in_rom : holding Store 0x0300 0 three ≡ []
not_taken_in_rom = refl

-- a port goes by no page
not_for_ports : holding PortRead 0x0008 0 three ≡ []
not_for_ports = refl
