-- The timer of a chip (Mostek 3851 data sheet in outline). The step's rule, its period of 31 Φ and the moment of an expiry
-- are this project's own.
use Rattle.std.specs.Prelude.{ℕ, zero, suc, ◌+◌, ◌-◌, ◌*◌, ◌/◌, ◌%◌, ◌≡◌, ◌<◌, ◌≤◌, Bool, not, ◌&&◌, ◌==◌, nat_lt, nat_le, if◌then◌else◌}
use Rattle.std.specs.Prelude.{Option, Some, None}
use Rattle.f8_spec.specs.Words.{bit_of}

-- ---- a step

-- how many of the bits 3, 4, 5 and 7 are set
abbrev pub ones_fed_back : ℕ → ℕ
ones_fed_back state = state / 8 % 2 + state / 16 % 2 + state / 32 % 2 + state / 128 % 2

-- One step: to the left, and in comes a 1 where the bits fed back hold an even number of ones. 255 stays.
abbrev pub shifted_timer : ℕ → ℕ
shifted_timer state = 2 * state % 256 + bit_of (ones_fed_back state % 2 == 0)

-- the step from 7F to FE
abbrev pub expires_next : ℕ → Bool
expires_next state = state == 0x7F

-- ---- the steps up to an expiry. The states but 255 form one cycle of 255.

-- the number of the first step that goes from 7F to FE, looked for among so many steps and one more
abbrev pub steps_within : ℕ → ℕ → ℕ
steps_within zero state = 1
steps_within (suc more) state = if expires_next state then 1 else 1 + steps_within more (shifted_timer state)

-- The steps up to an expiry, with the step in which it falls: 1 of 7F, 255 of FE. It says nothing of the state 255, which has none.
unfoldable pub steps_to_expiry : ℕ → ℕ
steps_to_expiry state = steps_within 254 state

-- ---- a timer that runs

-- its state, and the clocks since its last step in Φ, below 31
pub record TimerState : Type 0 where
  pub state : ℕ
  pub phase : ℕ

-- the clocks from one step to the next, and round the whole cycle, in Φ
abbrev pub step_period : ℕ
step_period = 31

abbrev pub cycle_period : ℕ
cycle_period = 255 * step_period

-- a timer at power-on
abbrev pub idle_timer : TimerState
idle_timer = record { state = 255; phase = 0 }

-- a timer at the end of the bus step that loads it
abbrev pub timer_loaded : ℕ → TimerState
timer_loaded byte = record { state = byte; phase = 0 }

-- a step falls into these clocks, fewer than 31
abbrev pub is_step_full : ℕ → ℕ → Bool
is_step_full clocks phase = nat_le step_period (phase + clocks)

abbrev pub phase_after : ℕ → ℕ → ℕ
phase_after clocks phase = if is_step_full clocks phase then phase + clocks - step_period else phase + clocks

-- the timer after some clocks, fewer than 31
abbrev pub timer_after : ℕ → TimerState → TimerState
timer_after clocks t = record {
  state = if is_step_full clocks t.phase then shifted_timer t.state else t.state;
  phase = phase_after clocks t.phase;
}

-- it expires in these clocks, fewer than 31
abbrev pub expires_within : ℕ → TimerState → Bool
expires_within clocks t = is_step_full clocks t.phase && expires_next t.state

-- the clocks up to the next expiry, in Φ, if nothing is loaded before it
abbrev pub clocks_to_expiry : TimerState → Option ℕ
clocks_to_expiry t = if t.state == 255 then None else Some (step_period * steps_to_expiry t.state - t.phase)

-- ---- expiries in closed form, by the byte and the time of the load, without a timer that runs

-- the first of `first`, `first` + 7,905, `first` + 15,810 and so on that lies after another time
abbrev pub next_in_cycle : ℕ → ℕ → ℕ
next_in_cycle first time =
    if nat_lt time first then first else first + cycle_period * ((time - first) / cycle_period + 1)

-- the first expiry after a time of a timer that was loaded with a byte other than 255
abbrev pub next_expiry : ℕ → ℕ → ℕ → ℕ
next_expiry byte loaded time = next_in_cycle (loaded + step_period * steps_to_expiry byte) time

-- a timer that was loaded with a byte has an expiry after one time and up to another; loaded with 255 it has none
abbrev pub expires_between : ℕ → ℕ → ℕ → ℕ → Bool
expires_between byte loaded since until = not (byte == 255) && nat_le (next_expiry byte loaded since) until

-- ---- the two beside each other

-- From this time on the timer expires as the closed form says of one that was loaded with the byte, and not again since.
pub record ExpiresAsLoaded (byte loaded time : ℕ) (t : TimerState) : Type 0 where
  pub is_byte : t.state < 256
  pub within_step : t.phase < step_period
  pub past : loaded ≤ time
  pub never : byte ≡ 255 → t.state ≡ 255
  pub ever : (byte ≡ 255 → ⊥) → t.state < 255
  pub next : (byte ≡ 255 → ⊥) → next_expiry byte loaded time + t.phase ≡ time + step_period * steps_to_expiry t.state

-- whatever was loaded and whenever: it goes on as the closed form says, and it told whether an expiry lies in these clocks
abbrev pub KeepsExpiries : ℕ → TimerState → TimerState → Bool → Type 0
KeepsExpiries clocks old new expires = (byte loaded time : ℕ) → ExpiresAsLoaded byte loaded time old →
    ExpiresAsLoaded byte loaded (time + clocks) new × (expires ≡ expires_between byte loaded time (time + clocks))

-- whatever was loaded and whenever: the answer is the time from now to the next expiry
abbrev pub TellsNextExpiry : TimerState → Option ℕ → Type 0
TellsNextExpiry t answer = (byte loaded time : ℕ) → ExpiresAsLoaded byte loaded time t →
    answer ≡ (if byte == 255 then None else Some (next_expiry byte loaded time - time))
