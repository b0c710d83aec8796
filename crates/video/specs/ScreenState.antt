-- A screen as contracts see it: what is shown after the writes that it was given, and what bears on what later writes do. The writes of a
-- list stand as in console_spec, the last one first.
use Rattle.std.specs.Prelude.{ℕ, ◌+◌, ◌-◌, ◌*◌, ◌/◌, ◌%◌, Bool, not, ◌&&◌, ◌==◌, if◌then◌else◌, List, [], ◌∷◌, map, slice_index}
use Rattle.std.specs.Prelude.{slice_index_or, slice_set}
use Rattle.std.specs.List.{range_with_len}
use Rattle.console_spec.specs.Writes.{latch_of}
use Rattle.console_spec.specs.declared.PortWrite.{PortWrite}
use Rattle.console_spec.specs.Display.{is_raised, pixel_of}

-- the latches that say what is drawn, and where: ports 1, 4 and 5
pub record Latches : Type 0 where
  pub colour : ℕ
  pub column : ℕ
  pub row : ℕ

-- the latches, whether bit 5 of the last write to port 0 is set, and the rows of pixels: from y 0 on, each from x 0 on
pub record Shown : Type 0 where
  pub latches : Latches
  pub strobe : Bool
  pub rows : List (List ℕ)

-- 64 rows of 128 pixels by their colours
unfoldable pub rows_of : (ℕ → ℕ → ℕ) → List (List ℕ)
rows_of pixels = map (λ y. map (λ x. pixels x y) (range_with_len 0 128)) (range_with_len 0 64)

abbrev pub latches_of : List PortWrite → Latches
latches_of ws = record { colour = latch_of 1 ws; column = latch_of 4 ws; row = latch_of 5 ws }

-- what is shown after some writes
abbrev pub screen_after : List PortWrite → Shown
screen_after ws = record { latches = latches_of ws; strobe = is_raised (latch_of 0 ws); rows = rows_of (λ x y. pixel_of x y ws) }

-- a row, and the colour at x and y, in rows of pixels
abbrev pub row_in : List (List ℕ) → ℕ → List ℕ
row_in rows y = slice_index_or rows y []

abbrev pub pixel_in : List (List ℕ) → ℕ → ℕ → ℕ
pixel_in rows x y = slice_index (row_in rows y) x

-- the colours of a row as the pixels of a screen of which each row is that one
abbrev pub in_each_row : List ℕ → ℕ → ℕ → ℕ
in_each_row row x y = slice_index row x

-- ---- what is told

-- the palette of a row of pixels: the high bit of pixel 125, and twice that of pixel 126
abbrev pub palette_in : (ℕ → ℕ → ℕ) → ℕ → ℕ
palette_in pixels y = pixels 125 y / 2 + 2 * (pixels 126 y / 2)

-- the text of a row of pixels: its palette, a blank, and the colours of its 128 pixels from x 0 on, each a digit
unfoldable pub digits_in : (ℕ → ℕ → ℕ) → ℕ → List ℕ
digits_in pixels y = (48 + palette_in pixels y) ∷ 32 ∷ map (λ x. 48 + pixels x y) (range_with_len 0 128)

-- ---- one more write

-- bytes reach video memory inverted
abbrev pub colour_drawn : Latches → ℕ
colour_drawn l = (255 - l.colour) / 64

abbrev pub x_drawn : Latches → ℕ
x_drawn l = (255 - l.column) % 128

abbrev pub y_drawn : Latches → ℕ
y_drawn l = (255 - l.row) % 64

-- the rows with the colour that the latches say at the pixel that they say
abbrev pub drawn : Latches → List (List ℕ) → List (List ℕ)
drawn l rows = slice_set rows (y_drawn l) (slice_set (row_in rows (y_drawn l)) (x_drawn l) (colour_drawn l))

-- After a byte is written to a port: ports 1, 4 and 5 are latched, a rise of bit 5 of port 0 draws at the latches of before, and other ports
-- change nothing.
unfoldable pub after_write : (port byte : ℕ) → Shown → Shown
after_write port byte s = record {
  latches = record {
    colour = if port == 1 then byte else s.latches.colour;
    column = if port == 4 then byte else s.latches.column;
    row = if port == 5 then byte else s.latches.row;
  };
  strobe = if port == 0 then is_raised byte else s.strobe;
  rows = if port == 0 && is_raised byte && not s.strobe then drawn s.latches s.rows else s.rows;
}
