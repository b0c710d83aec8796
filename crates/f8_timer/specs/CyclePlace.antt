-- The place of a timer's state in the cycle of the 255 states but FF, and the state at a place.
use Rattle.std.specs.Prelude.{ℕ, zero, suc, ◌-◌, ◌≡◌, ◌<◌, ◌==◌, if◌then◌else◌, refl}
use Rattle.f8_spec.specs.ShiftTimer.{shifted_timer, steps_to_expiry}
use Rattle.f8_spec.proofs.ValuesBelow.{values_below, same_below}

-- the steps up to the expiry, 1 of 7F and 255 of FE, and 0 of FF, which has none
unfoldable pub place_of : ℕ → ℕ
place_of state = if state == 0xFF then 0 else steps_to_expiry state

-- a state after so many steps
abbrev pub shifted_times : ℕ → ℕ → ℕ
shifted_times zero state = state
shifted_times (suc n) state = shifted_times n (shifted_timer state)

-- the state at a place, by the steps from FE on, which is the first of the cycle
unfoldable pub state_at : ℕ → ℕ
state_at place = if place == 0 then 0xFF else shifted_times (255 - place) 0xFE

-- the state at a place has that place, computed at all 256
all_placed_back : values_below (λ place. place_of (state_at place)) 256 ≡ values_below (λ place. place) 256
unfolding values_below place_of state_at steps_to_expiry
all_placed_back = refl

pub placed_back : (place : ℕ) → place < 256 → place_of (state_at place) ≡ place
placed_back place small = same_below (λ p. place_of (state_at p)) (λ p. p) 256 place all_placed_back small
