-- The cycle of the timer's states, computed at each of the 256 bytes.
use Rattle.std.proofs.Common.{◌≡◌, ◌==◌, ◌&&◌, ℕ, ◌+◌, ◌<◌, ◌≤◌, Bool, true, refl, arith}
use Rattle.std.specs.Prelude.{nat_lt, nat_le, if◌then◌else◌}
use Rattle.std.proofs.lemmas.Bool.Decides.{nat_tests}
use Rattle.f8_spec.specs.ShiftTimer.{shifted_timer, expires_next, steps_to_expiry}
use Rattle.f8_spec.proofs.ValuesBelow.{values_below, same_below}

-- 255 stays, and each other state leads to one that is a step nearer to the expiry, or behind it and a whole cycle away
abbrev step_is_right : ℕ → Bool
step_is_right state =
    if state == 255 then shifted_timer state == 255 else
    nat_lt (shifted_timer state) 255 && nat_le 1 (steps_to_expiry state) && nat_le (steps_to_expiry state) 255 &&
    (if expires_next state then (steps_to_expiry state == 1) && (steps_to_expiry (shifted_timer state) == 255)
    else steps_to_expiry state == steps_to_expiry (shifted_timer state) + 1)

all_right : values_below step_is_right 256 ≡ values_below (λ _. true) 256
unfolding values_below steps_to_expiry
all_right = refl

right_at : (state : ℕ) → state < 256 → step_is_right state ≡ true
right_at state is_byte = same_below step_is_right (λ _. true) 256 state all_right is_byte

-- a state other than 255 leads to another such state
pub shifted-below : (state : ℕ) → state < 255 → shifted_timer state < 255
shifted-below state small = grind (nat_tests, arith, right_at state (omega arith))

-- it is at most a whole cycle before the expiry
pub steps-within_cycle : (state : ℕ) → state < 255 → (1 ≤ steps_to_expiry state) × (steps_to_expiry state ≤ 255)
steps-within_cycle state small = grind (nat_tests, arith, right_at state (omega arith))

-- a step leads one step nearer to the expiry
pub steps-shifted : (state : ℕ) → state < 255 → (state ≡ 0x7F → ⊥) → steps_to_expiry state ≡ steps_to_expiry (shifted_timer state) + 1
steps-shifted state small other = grind (nat_tests, arith, right_at state (omega arith))

-- 7F expires at its next step, and the state after it a whole cycle later
pub steps-last : steps_to_expiry 0x7F ≡ 1
unfolding steps_to_expiry
steps-last = refl

pub steps-first : steps_to_expiry (shifted_timer 0x7F) ≡ 255
unfolding steps_to_expiry
steps-first = refl
