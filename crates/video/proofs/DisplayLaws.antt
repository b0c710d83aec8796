-- What one more write does to what the definitions of Display search the writes for.
use Rattle.std.proofs.Common.{◌≡◌, ℕ, Bool, true, false, List, ◌∷◌, refl}
use Rattle.std.specs.Prelude.{◌&&◌, ◌==◌, if◌then◌else◌, Some}
use Rattle.std.specs.List.{find}
use Rattle.console_spec.specs.declared.PortWrite.{PortWrite}
use Rattle.console_spec.specs.Display.{is_rise, strokes, x_of, y_of, colour_of, colour_at, pixel_of}

-- the last stroke's place is looked at first
abbrev is_at : ℕ → ℕ → List PortWrite → Bool
is_at x y before = (x_of before == x) && (y_of before == y)

first_found : (x y : ℕ) (ws : List PortWrite) →
    colour_at (find (is_at x y) (ws ∷ strokes ws)) ≡ (if is_at x y ws then colour_of ws else pixel_of x y ws)
first_found x y ws =
    elim (is_at x y ws) as (λ b. colour_at (if b then Some ws else find (is_at x y) (strokes ws)) ≡ (if b then colour_of ws else pixel_of x y ws)) [
      | true ↦ refl
      | false ↦ refl
    ]

-- one more write draws where it is a rise alone
pub pixel_of-next : (w : PortWrite) (ws : List PortWrite) (x y : ℕ) →
    pixel_of x y (w ∷ ws) ≡ (if is_rise w ws then (if is_at x y ws then colour_of ws else pixel_of x y ws) else pixel_of x y ws)
pixel_of-next w ws x y =
    elim (is_rise w ws) as (λ b. colour_at (find (is_at x y) (if b then ws ∷ strokes ws else strokes ws))
    ≡ (if b then (if is_at x y ws then colour_of ws else pixel_of x y ws) else pixel_of x y ws)) [
      | true ↦ first_found x y ws
      | false ↦ refl
    ]
