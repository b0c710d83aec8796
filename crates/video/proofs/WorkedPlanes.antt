-- The planes of a row of pixels worked out by hand, computed from the definitions.
use Rattle.std.proofs.Common.{◌≡◌, ℕ, ◌+◌, List, [], ◌∷◌, refl}
use Rattle.std.specs.Prelude.{◌^◌}
use Rattle.console_spec.specs.declared.PortWrite.{PortWrite}
use Rattle.console_spec.specs.Display.{pixel_of}
use Rattle.video.specs.Planes.{plane_of}

abbrev wrote : ℕ → ℕ → ℕ → PortWrite
wrote phi port byte = record { phi = phi; port = port; byte = byte }

-- the strobe rises, stands, falls and rises again, with column 127 at first, and then 125 once more: the last write first
abbrev two_strokes : List PortWrite
two_strokes =
    wrote 132 0 0x20 ∷ wrote 114 4 0x82 ∷ wrote 88 0 0x00 ∷ wrote 76 0 0x20 ∷ wrote 58 4 0x81 ∷ wrote 32 0 0x20 ∷ []

-- both bits of the colour 3 at 127 and at 125
low_plane : plane_of (λ x. pixel_of x 63 two_strokes) 0 ≡ 2 ^ 127 + 2 ^ 125
unfolding plane_of
low_plane = refl

high_plane : plane_of (λ x. pixel_of x 63 two_strokes) 1 ≡ 2 ^ 127 + 2 ^ 125
unfolding plane_of
high_plane = refl

-- a dark row
dark_plane : plane_of (λ x. pixel_of x 62 two_strokes) 0 ≡ 0
unfolding plane_of
dark_plane = refl
