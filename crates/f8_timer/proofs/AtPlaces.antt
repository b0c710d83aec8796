-- A timer at a place of its cycle: a step, the clocks to its expiry, and what it does in clocks that have a step in them.
use Rattle.std.proofs.Common.{◌≡◌, ◌==◌, ◌&&◌, ◌+◌, ◌-◌, ◌*◌, ◌<◌, ◌≤◌, ℕ, Bool, true, not, refl, ap, arith}
use Rattle.std.specs.Prelude.{if◌then◌else◌, Some, None}
use Rattle.std.proofs.lemmas.Bool.Decides.{nat_tests}
use Rattle.f8_spec.specs.ShiftTimer.{TimerState, shifted_timer, expires_next, steps_to_expiry}
use Rattle.f8_spec.specs.ShiftTimer.{step_period, timer_after, expires_within, clocks_to_expiry, KeepsExpiries}
use Rattle.f8_spec.proofs.TimerExpiry.{keeps-expiries}
use Rattle.f8_spec.proofs.ValuesBelow.{values_below, same_below}
use Rattle.f8_timer.specs.CyclePlace.{place_of, state_at, placed_back}

-- a step from the place 1 is the expiry and leads to the place 255; from another it leads to the one before, and 0 stays
abbrev step_is_right : ℕ → Bool
step_is_right place =
    if place == 0 then (state_at place == 0xFF) && (shifted_timer (state_at place) == 0xFF) else
    if place == 1 then (state_at place == 0x7F) && (shifted_timer (state_at place) == state_at 255) else
    (shifted_timer (state_at place) == state_at (place - 1)) && not (state_at place == 0x7F)

all_steps_right : values_below step_is_right 256 ≡ values_below (λ _. true) 256
unfolding values_below state_at
all_steps_right = refl

step_right_at : (place : ℕ) → place < 256 → step_is_right place ≡ true
step_right_at place small = same_below step_is_right (λ _. true) 256 place all_steps_right small

-- a state of the cycle isn't FF, and its place is the steps up to its expiry
steps_at : (place : ℕ) → place < 256 → (place ≡ 0 → ⊥) →
    (state_at place ≡ 0xFF → ⊥) × (steps_to_expiry (state_at place) ≡ place)
unfolding place_of
steps_at place small some = grind (nat_tests, arith, placed_back place small)

-- a timer at a place, and one in a state
abbrev pub placed : ℕ → ℕ → TimerState
placed place phase = record { state = state_at place; phase = phase }

abbrev with_state : ℕ → ℕ → TimerState
with_state phase state = record { state = state; phase = phase }

-- a step: at the place 0, at the last one, and at each other
abbrev stepped : ℕ → ℕ → TimerState
stepped place phase = record { state = shifted_timer (state_at place); phase = phase }

pub stepped-none : (place phase : ℕ) → place ≡ 0 → placed place phase ≡ stepped place phase
stepped-none place phase none = ap (with_state phase) (grind (nat_tests, arith, step_right_at place (omega arith)))

pub stepped-last : (place phase : ℕ) → place ≡ 1 → placed 255 phase ≡ stepped place phase
stepped-last place phase last = ap (with_state phase) (grind (nat_tests, arith, step_right_at place (omega arith)))

pub stepped-other : (place phase : ℕ) → place < 256 → 2 ≤ place → placed (place - 1) phase ≡ stepped place phase
stepped-other place phase small before = ap (with_state phase) (grind (nat_tests, arith, step_right_at place small))

-- it is the expiry at the last place alone
pub expires-at : (place : ℕ) → place < 256 → expires_next (state_at place) ≡ (place == 1)
expires-at place small = grind (nat_tests, arith, step_right_at place small)

-- the clocks to the expiry, by the place
pub clocks-none : (place phase : ℕ) → place ≡ 0 → clocks_to_expiry (placed place phase) ≡ None
clocks-none place phase none = grind (nat_tests, arith, step_right_at place (omega arith))

pub clocks-some : (place phase : ℕ) → place < 256 → (place ≡ 0 → ⊥) →
    clocks_to_expiry (placed place phase) ≡ Some (place * step_period - phase)
clocks-some place phase small some = grind (nat_tests, arith, steps_at place small some)

-- ---- clocks with a step in them

after-full : (clocks : ℕ) (t : TimerState) → step_period ≤ t.phase + clocks →
    timer_after clocks t ≡ record { state = shifted_timer t.state; phase = t.phase + clocks - step_period }
after-full clocks t full = grind (nat_tests, arith)

expires-full : (clocks : ℕ) (t : TimerState) → step_period ≤ t.phase + clocks → expires_within clocks t ≡ expires_next t.state
expires-full clocks t full = grind (nat_tests, arith)

-- it goes on as the closed form says
pub keeps-full : (clocks : ℕ) (t : TimerState) → clocks < step_period → step_period ≤ t.phase + clocks →
    KeepsExpiries clocks t (record { state = shifted_timer t.state; phase = t.phase + clocks - step_period }) (expires_next t.state)
keeps-full clocks t few full = λ byte loaded time as_loaded.
    rw (← after-full clocks t full, ← expires-full clocks t full) (keeps-expiries clocks t few byte loaded time as_loaded)
