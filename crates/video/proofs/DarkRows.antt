-- Rows of zeros are those of a screen to which nothing was written.
use Rattle.std.proofs.Common.{◌≡◌, ℕ, List, [], map, sym, ap, ◌∙◌}
use Rattle.std.specs.Prelude.{replicate}
use Rattle.std.specs.List.{range_with_len}
use Rattle.console_spec.specs.Display.{pixel_of}
use Rattle.video.specs.ScreenState.{rows_of}
use Rattle.video.proofs.IndexedLists.{map-constant}

abbrev zeros : ℕ → List ℕ
zeros n = replicate n 0

zero_rows : (width height : ℕ) → replicate height (zeros width) ≡ map (λ y. map (λ x. 0) (range_with_len 0 width)) (range_with_len 0 height)
zero_rows width height = sym (map-constant (map (λ x. 0) (range_with_len 0 width)) 0 height ∙ ap (replicate height) (map-constant 0 0 width))

pub rows_of-dark : replicate 64 (zeros 128) ≡ rows_of (λ x y. pixel_of x y [])
unfolding rows_of
rows_of-dark = zero_rows 128 64
