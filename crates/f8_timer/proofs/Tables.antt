-- The two tables, computed at all 256 places.
use Rattle.std.proofs.Common.{◌≡◌, ◌<◌, ℕ, refl, map, get_or, ap, ◌∙◌, arith}
use Rattle.std.specs.List.{range_with_len}
use Rattle.std.proofs.lemmas.List.FromFn.{get_or-map-range_with_len}
use Rattle.f8_spec.specs.ShiftTimer.{steps_to_expiry}
use Rattle.f8_spec.proofs.ValuesBelow.{values_below, same_below}
use Rattle.f8_timer.specs.CyclePlace.{place_of, state_at}
use Rattle.f8_timer.specs.declared.cycle.TheConstants.{PLACES, STATES}

places_are : PLACES ≡ map place_of (range_with_len 0 256)
unfolding place_of steps_to_expiry
places_are = refl

states_are : STATES ≡ map state_at (range_with_len 0 256)
unfolding state_at
states_are = refl

-- the tables hold the places and the states
pub place-in_table : (state other : ℕ) → state < 256 → get_or PLACES state other ≡ place_of state
place-in_table state other is_byte =
    ap (λ table. get_or table state other) places_are ∙ get_or-map-range_with_len place_of 0 256 state state other is_byte (omega arith)

pub state-in_table : (place other : ℕ) → place < 256 → get_or STATES place other ≡ state_at place
state-in_table place other small =
    ap (λ table. get_or table place other) states_are ∙ get_or-map-range_with_len state_at 0 256 place place other small (omega arith)

-- each byte is the state at its own place
all_states_back : values_below (λ state. state_at (place_of state)) 256 ≡ values_below (λ state. state) 256
unfolding values_below place_of state_at steps_to_expiry
all_states_back = refl

pub state_back : (state : ℕ) → state < 256 → state_at (place_of state) ≡ state
state_back state is_byte = same_below (λ s. state_at (place_of s)) (λ s. s) 256 state all_states_back is_byte
