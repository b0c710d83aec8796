-- The image of a text, or its first fault.
use Rattle.std.specs.Prelude.{ℕ, ℤ, ◌+◌, ◌<◌, ◌≤◌, All, AllPairs, List, [], ◌∷◌, Option, Some, None, Result, Ok}
use Rattle.f8_asm.specs.declared.answers.AsmFault.{AsmFault}
use Rattle.f8_asm.specs.declared.answers.Room.{Room}
use Rattle.f8_asm.specs.Answers.{◌>>=◌}
use Rattle.text_lines.specs.Lines.{lines}
use Rattle.f8_asm.specs.PassOne.{no_reading, read_lines}
use Rattle.f8_asm.specs.PassTwo.{no_layout, place_lines}
use Rattle.f8_asm.specs.PassThree.{no_bytes, emit_lines}

-- bytes with their addresses, ascending, and names with their values, in the order in which they were defined
pub record Picture : Type 0 where
  pub bytes : List (ℕ × ℕ)
  pub symbols : List (List ℕ × ℤ)

-- the bytes of a table whose first address this is
abbrev pub ascending : ℕ → List (Option ℕ) → List (ℕ × ℕ)
ascending at [] = []
ascending at (None ∷ slots) = ascending (at + 1) slots
ascending at (Some b ∷ slots) = (at, b) ∷ ascending (at + 1) slots

-- three passes over the whole text, among so many addresses: the first fault of the earliest is told
unfoldable pub image_in : ℕ → List ℕ → Room → Result Picture AsmFault
image_in size text room =
    read_lines no_reading (lines text) >>= λ read. place_lines room
    (no_layout size) read.lines >>= λ laid. emit_lines laid.names (no_bytes size) laid.placed >>= λ table. Ok
    (record { bytes = ascending 0 table; symbols = laid.names })

-- the image among all addresses
unfoldable pub image_of : List ℕ → Room → Result Picture AsmFault
image_of text room = image_in 65536 text room

-- all of these bytes have their addresses in the room
abbrev pub LiesIn : Room → List (ℕ × ℕ) → Type 0
LiesIn room bytes = All (λ b. (room.first ≤ b.0) × (b.0 ≤ room.last)) bytes

-- each address is above those before it
abbrev pub Ascends : List (ℕ × ℕ) → Type 0
Ascends bytes = AllPairs (λ b c. b.0 < c.0) bytes

-- all addresses
abbrev pub everywhere : Room
everywhere = record { first = 0; last = 65535 }

-- bytes one after the other, the first at this address
abbrev pub bytes_from : ℕ → List ℕ → List (ℕ × ℕ)
bytes_from at [] = []
bytes_from at (b ∷ bs) = (at, b) ∷ bytes_from (at + 1) bs

-- bytes at the addresses 0, 1, 2 and so on, and no names
abbrev pub picture_of : List ℕ → Picture
picture_of bytes = record { bytes = bytes_from 0 bytes; symbols = [] }
