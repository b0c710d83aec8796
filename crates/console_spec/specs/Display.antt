-- The picture and the tone, from the writes of a run. A pixel has the colour of the last stroke at its place; nothing is drawn beforehand.
-- All of it is this project's own, after the Channel F.
use Rattle.std.specs.Prelude.{ℕ, ◌+◌, ◌-◌, ◌*◌, ◌/◌, ◌%◌, Bool, not, ◌&&◌, ◌==◌, if◌then◌else◌, List, [], ◌∷◌, map, Option, Some, None}
use Rattle.std.specs.List.{find, range_with_len}
use Rattle.console_spec.specs.Writes.{latch_of}
use Rattle.console_spec.specs.declared.PortWrite.{PortWrite}

-- bit 5 of a byte
abbrev pub is_raised : ℕ → Bool
is_raised byte = byte / 32 % 2 == 1

-- A stroke: bit 5 of port 0 goes from 0 to 1.
abbrev pub is_rise : PortWrite → List PortWrite → Bool
is_rise w before = (w.port == 0) && is_raised w.byte && not (is_raised (latch_of 0 before))

-- the writes before each stroke, those of the last one first
abbrev pub strokes : List PortWrite → List (List PortWrite)
strokes [] = []
strokes (w ∷ ws) = if is_rise w ws then ws ∷ strokes ws else strokes ws

abbrev pub x_of : List PortWrite → ℕ
x_of before = (255 - latch_of 4 before) % 128

abbrev pub y_of : List PortWrite → ℕ
y_of before = (255 - latch_of 5 before) % 64

abbrev pub colour_of : List PortWrite → ℕ
colour_of before = (255 - latch_of 1 before) / 64

abbrev pub colour_at : Option (List PortWrite) → ℕ
colour_at None = 0
colour_at (Some before) = colour_of before

-- the colour of a pixel, 0 to 3: that of the last stroke there, and 0 where there was none
abbrev pub pixel_of : ℕ → ℕ → List PortWrite → ℕ
pixel_of x y writes = colour_at (find (λ before. (x_of before == x) && (y_of before == y)) (strokes writes))

-- the palette of a row, 0 to 3
abbrev pub palette_of : ℕ → List PortWrite → ℕ
palette_of y writes = pixel_of 125 y writes / 2 + 2 * (pixel_of 126 y writes / 2)

-- the number of the tone, 0 to 3
abbrev pub tone_of : List PortWrite → ℕ
tone_of writes = latch_of 5 writes / 64

-- the 128 pixels of a row
abbrev pub row_of_pixels : ℕ → List PortWrite → List ℕ
row_of_pixels y writes = map (λ x. pixel_of x y writes) (range_with_len 0 128)
