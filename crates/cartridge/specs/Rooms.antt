-- The addresses that the image of a source may have. They are this project's own.
use Rattle.std.specs.Prelude.{ℕ, ◌+◌, ◌-◌}
use Rattle.f8_asm.specs.declared.answers.Room.{Room}
pub use Rattle.f8_asm.specs.Image.{LiesIn}

-- the addresses of a 3851, of which there are 1,024
abbrev pub psu_room : ℕ → Room
psu_room base = record { first = base; last = base + 1023 }

-- how many addresses a room has
abbrev pub room_size : Room → ℕ
room_size room = room.last + 1 - room.first
