-- The memory of a program, as one space.
use Rattle.std.specs.Prelude.{ℕ, List, slice_index_or}

-- the byte at an address, and 255 past the end of the space
abbrev pub byte_at : List ℕ → ℕ → ℕ
byte_at memory at = slice_index_or memory at 255
