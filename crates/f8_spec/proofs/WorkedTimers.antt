-- Timers that run, and requests in single bus steps, worked out by hand and computed from the definitions.
use Rattle.std.proofs.Common.{◌≡◌, ◌||◌, ℕ, zero, suc, ◌+◌, true, false, List, [], ◌∷◌, map, refl}
use Rattle.std.specs.Prelude.{if◌then◌else◌, Some}
use Rattle.f8_spec.specs.ShiftTimer.{TimerState, timer_loaded, timer_after, expires_within, clocks_to_expiry, steps_to_expiry}
use Rattle.f8_spec.specs.ChipState.{ChipView, HeardStep, blank_view, after_step, powered, pulsed, is_asking}
use Rattle.f8_spec.specs.declared.chips.ChipKind.TheVariants.{Psu, Smi}

-- ---- steps of a timer, each of 30 Φ and then 1 Φ

abbrev a_step_on : TimerState → TimerState
a_step_on t = timer_after 1 (timer_after 30 t)

-- its states after each of so many steps
abbrev states_after : ℕ → TimerState → List ℕ
states_after zero t = []
states_after (suc n) t = (a_step_on t).state ∷ states_after n (a_step_on t)

-- the numbers, from one on, of those of so many steps in which it expires
abbrev expiring_steps : ℕ → ℕ → TimerState → List ℕ
expiring_steps number zero t = []
expiring_steps number (suc n) t =
    if expires_within 30 t || expires_within 1 (timer_after 30 t)
    then number ∷ expiring_steps (number + 1) n (a_step_on t)
    else expiring_steps (number + 1) n (a_step_on t)

states_from_FE : states_after 6 (timer_loaded 0xFE) ≡ 0xFD ∷ 0xFB ∷ 0xF7 ∷ 0xEE ∷ 0xDC ∷ 0xB8 ∷ []
states_from_FE = refl

expiries_of_7F : expiring_steps 1 600 (timer_loaded 0x7F) ≡ 1 ∷ 256 ∷ 511 ∷ []
expiries_of_7F = refl

expiries_of_FE : expiring_steps 1 600 (timer_loaded 0xFE) ≡ 255 ∷ 510 ∷ []
expiries_of_FE = refl

expiries_of_FF : expiring_steps 1 600 (timer_loaded 0xFF) ≡ []
expiries_of_FF = refl

-- the clocks to the next expiry: 31 right after a load of 7F, 1 just before it, and 7,905 at it
clocks_just_before : clocks_to_expiry (timer_after 30 (timer_loaded 0x7F)) ≡ Some 1
unfolding steps_to_expiry
clocks_just_before = refl

clocks_at_expiry : clocks_to_expiry (a_step_on (timer_loaded 0x7F)) ≡ Some 7905
unfolding steps_to_expiry
clocks_at_expiry = refl

-- the steps of some waiting times
some_waits : map steps_to_expiry
    (0x7F ∷ 0xBF ∷ 0x5F ∷ 0x2F ∷ 0x1C ∷ 0x1E ∷ 0xF6 ∷ 0x55 ∷ 0x88 ∷ 0x3A ∷ 0x52 ∷ 0xFE ∷ [])
    ≡ 1 ∷ 2 ∷ 3 ∷ 4 ∷ 10 ∷ 20 ∷ 32 ∷ 50 ∷ 100 ∷ 128 ∷ 200 ∷ 255 ∷ []
unfolding steps_to_expiry
some_waits = refl

-- ---- an expiry in the very step that does something else

-- A 3851 with the ports 4 to 7 under a control, whose timer expires 3 Φ on. The last byte names a port.
abbrev expiring : ℕ → ℕ → ChipView
expiring control last = record (blank_view Psu) { ports = Some 4; control = control; timer = 0x7F; phase = 28; last = last }

abbrev long_step : ℕ → ℕ → HeardStep
long_step romc byte = record { romc = romc; byte = byte; clocks = 6; first = false }

-- it counts under the old control, and a control write ends it
in_control_write : after_step (long_step 0x1A 3) (expiring 3 6) ≡ record (expiring 3 3) { timer = 0xFE; phase = 3 }
in_control_write = refl

under_the_old_control : after_step (long_step 0x1A 3) (expiring 1 6) ≡ record (expiring 3 3) { timer = 0xFE; phase = 3 }
under_the_old_control = refl

-- a load leaves it, and starts the timer anew
in_load : after_step (long_step 0x1A 0x55) (expiring 3 7) ≡ record (expiring 3 0x55) { timer = 0x55; phase = 0; request = true }
in_load = refl

-- another chip's port
in_other_write : after_step (long_step 0x1A 0x55) (expiring 3 8) ≡ record (expiring 3 0x55) { timer = 0xFE; phase = 3; request = true }
in_other_write = refl

-- the acknowledgement of the chip's own interrupt ends it, and that of another chip's doesn't
in_own_acknowledgement : (after_step (record (long_step 0x13 0x01) { first = true }) (expiring 3 0)).request ≡ false
in_own_acknowledgement = refl

in_other_acknowledgement : (after_step (long_step 0x13 0x01) (expiring 3 0)).request ≡ true
in_other_acknowledgement = refl

-- the step before, which gives the low byte, ends none
in_vector_low : (after_step (record (long_step 0x0F 0x80) { first = true }) (expiring 3 0)).request ≡ true
in_vector_low = refl

-- the low two bits of control decide: 07 latches an expiry, and FD, 02 and 00 don't
expiries_by_control : map (λ control. (after_step (long_step 0x10 0) (expiring control 0)).request) (0x07 ∷ 0xFD ∷ 0x02 ∷ 0x00 ∷ [])
    ≡ true ∷ false ∷ false ∷ false ∷ []
expiries_by_control = refl

pulses_by_control : map (λ control. (pulsed (expiring control 0)).request) (0x07 ∷ 0xFD ∷ 0x02 ∷ 0x00 ∷ []) ≡ false ∷ true ∷ false ∷ false ∷ []
pulses_by_control = refl

-- a chip that can't interrupt latches a request and doesn't ask
latched_unasked : is_asking (pulsed (expiring 1 0)) ≡ false
latched_unasked = refl

-- ---- power-on leaves no request, and the vector of a 3851 alone

abbrev before_power : ChipView
before_power = record (expiring 3 7) { vector = 0x1234; request = true }

power_on_psu : powered 0 0 before_power ≡ record before_power { control = 0; timer = 255; phase = 0; request = false; last = 0 }
power_on_psu = refl

power_on_smi : (powered 0 0 (record (blank_view Smi) { ports = Some 12; vector = 0x1234 })).vector ≡ 0
power_on_smi = refl

-- the vector's halves are the first two ports of a 3853
vector_high_written : (after_step (long_step 0x1A 0x12) (record (blank_view Smi) { ports = Some 12; vector = 0xABCD; last = 12 })).vector ≡ 0x12CD
vector_high_written = refl

vector_low_written : (after_step (long_step 0x1A 0x34) (record (blank_view Smi) { ports = Some 12; vector = 0xABCD; last = 13 })).vector ≡ 0xAB34
vector_low_written = refl
