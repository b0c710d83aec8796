-- Pictures worked out by hand, computed from the definitions.
use Rattle.std.proofs.Common.{◌≡◌, ℕ, List, [], ◌∷◌, ◌++◌, replicate, refl}
use Rattle.console_spec.specs.declared.PortWrite.{PortWrite}
use Rattle.console_spec.specs.Display.{pixel_of, palette_of, tone_of, row_of_pixels}

abbrev wrote : ℕ → ℕ → PortWrite
wrote port byte = record { phi = 0; port = port; byte = byte }

-- the strobe rises at the latches 0; rises no second time; and falls and rises again behind a write to port 4
abbrev two_strokes : List PortWrite
two_strokes = wrote 0 0x20 ∷ wrote 4 0x82 ∷ wrote 0 0x00 ∷ wrote 0 0x20 ∷ wrote 4 0x81 ∷ wrote 0 0x20 ∷ []

last_row : row_of_pixels 63 two_strokes ≡ replicate 125 0 ++ 3 ∷ 0 ∷ 3 ∷ []
last_row = refl

last_palette : palette_of 63 two_strokes ≡ 1
last_palette = refl

first_row : row_of_pixels 0 two_strokes ≡ replicate 128 0
first_row = refl

one_pixel : pixel_of 5 8 (wrote 0 0x20 ∷ wrote 5 0x37 ∷ wrote 4 0xFA ∷ []) ≡ 3
one_pixel = refl

a_tone : tone_of (wrote 5 0xC0 ∷ []) ≡ 3
a_tone = refl

-- pixels 125 and 126 of a row make its palette: 1 and 2
both_bits : palette_of 63 (wrote 0 0x20 ∷ wrote 4 0x81 ∷ wrote 0 0x00 ∷ wrote 0 0x20 ∷ wrote 4 0x82 ∷ []) ≡ 3
both_bits = refl
