-- A timer that runs, beside the closed form of its expiries.
use Rattle.std.proofs.Common.{◌≡◌, ◌&&◌, ℕ, ◌+◌, ◌-◌, ◌*◌, ◌<◌, ◌≤◌, inl, inr, refl, sym, subst, arith}
use Rattle.std.specs.Prelude.{nat_le, if◌then◌else◌}
use Rattle.std.proofs.lemmas.Bool.{cases_eq, cases_lt}
use Rattle.std.proofs.lemmas.Bool.Decides.{nat_tests}
use Rattle.f8_spec.specs.ShiftTimer.{TimerState, shifted_timer, expires_next, steps_to_expiry, step_period, phase_after}
use Rattle.f8_spec.specs.ShiftTimer.{idle_timer, timer_loaded, timer_after, is_step_full, expires_within}
use Rattle.f8_spec.specs.ShiftTimer.{clocks_to_expiry, next_in_cycle, ExpiresAsLoaded, KeepsExpiries, TellsNextExpiry}
use Rattle.f8_spec.proofs.TimerCycle.{shifted-below, steps-within_cycle, steps-shifted, steps-last, steps-first}
use Rattle.f8_spec.proofs.TimerPeriod.{next-stays, next-goes}

-- right after a load the closed form is that of the load
pub expires-loaded : (byte time : ℕ) → byte < 256 → ExpiresAsLoaded byte time time (timer_loaded byte)
expires-loaded byte time is_byte = record {
  is_byte = is_byte;
  within_step = omega arith;
  past = omega arith;
  never = λ same. same;
  ever = λ other. omega arith;
  next = λ other. grind (nat_tests, arith, steps-within_cycle byte (omega arith));
}

-- a timer never loaded is one loaded with 255
pub expires-idle : (time : ℕ) → ExpiresAsLoaded 255 0 time idle_timer
expires-idle time = record {
  is_byte = omega arith;
  within_step = omega arith;
  past = omega arith;
  never = λ same. same;
  ever = λ other. absurd (other refl);
  next = λ other. absurd (other refl);
}

-- the state after some clocks
abbrev state_after : ℕ → ℕ → ℕ → ℕ
state_after clocks phase state = if is_step_full clocks phase then shifted_timer state else state

-- the phase stays below a step's period
phase_small : (clocks phase : ℕ) → clocks < step_period → phase < step_period → phase_after clocks phase < step_period
phase_small clocks phase few small = grind (nat_tests, arith)

-- 255 stays
state_never : (clocks phase state : ℕ) → state ≡ 255 → state_after clocks phase state ≡ 255
state_never clocks phase state same = elim (cases_lt (phase + clocks) step_period) [
  | inl before ↦ grind (nat_tests, arith)
  | inr full ↦ subst (λ s. state_after clocks phase s ≡ 255) (sym same) (grind (nat_tests, arith))
]

-- and no other state becomes 255
state_ever : (clocks phase state : ℕ) → state < 255 → state_after clocks phase state < 255
state_ever clocks phase state small = elim (cases_lt (phase + clocks) step_period) [
  | inl before ↦ grind (nat_tests, arith)
  | inr full ↦ grind (nat_tests, arith, shifted-below state small)
]

-- Where the next expiry is as far as the state and the phase say, so it is after some clocks. First without a step, then in the last
-- step of the cycle, and then in each other step.
next_without_step : (first clocks phase state time : ℕ) → phase + clocks < step_period → state < 255 →
    next_in_cycle first time + phase ≡ time + step_period * steps_to_expiry state →
    next_in_cycle first (time + clocks) + (phase + clocks) ≡ time + clocks + step_period * steps_to_expiry state
next_without_step first clocks phase state time before small next =
    let steps = steps-within_cycle state small in
    rw (next-stays first time (time + clocks) (omega arith) (omega (arith, next, steps, before))) (omega (arith, next))

next_in_last_step : (first clocks phase state time : ℕ) → clocks < step_period → phase < step_period → step_period ≤ phase + clocks →
    state ≡ 0x7F → next_in_cycle first time + phase ≡ time + step_period * steps_to_expiry state →
    next_in_cycle first (time + clocks) + (phase + clocks - step_period) ≡ time + clocks + step_period * steps_to_expiry (shifted_timer state)
next_in_last_step first clocks phase state time few small full last next =
    let now : next_in_cycle first time + phase ≡ time + step_period * steps_to_expiry 0x7F =
    subst (λ s. next_in_cycle first time + phase ≡ time + step_period * steps_to_expiry s) last next in
    let soon : next_in_cycle first time + phase ≡ time + step_period = omega (arith, now, steps-last) in
    subst (λ s. next_in_cycle first (time + clocks) + (phase + clocks - step_period) ≡ time + clocks + step_period * steps_to_expiry (shifted_timer s))
    (sym last)
    (rw (next-goes first time (time + clocks) (omega (arith, soon)) (omega (arith, soon)))
    (rw steps-first (omega (arith, soon))))

next_in_step : (first clocks phase state time : ℕ) → clocks < step_period → phase < step_period → step_period ≤ phase + clocks →
    state < 255 → (state ≡ 0x7F → ⊥) → next_in_cycle first time + phase ≡ time + step_period * steps_to_expiry state →
    next_in_cycle first (time + clocks) + (phase + clocks - step_period) ≡ time + clocks + step_period * steps_to_expiry (shifted_timer state)
next_in_step first clocks phase state time few small full below other next =
    let fewer = steps-shifted state below other in
    let some = steps-within_cycle (shifted_timer state) (shifted-below state below) in
    rw (next-stays first time (time + clocks) (omega arith) (omega (arith, next, fewer, some))) (omega (arith, next, fewer))

next_after : (first clocks phase state time : ℕ) → clocks < step_period → phase < step_period → state < 255 →
    next_in_cycle first time + phase ≡ time + step_period * steps_to_expiry state →
    next_in_cycle first (time + clocks) + phase_after clocks phase ≡ time + clocks + step_period * steps_to_expiry (state_after clocks phase state)
next_after first clocks phase state time few small below next = elim (cases_lt (phase + clocks) step_period) [
  | inl before ↦ grind (nat_tests, arith, next_without_step first clocks phase state time before below next)
  | inr full ↦ elim (cases_eq state 0x7F) [
    | inl last ↦ grind (nat_tests, arith, next_in_last_step first clocks phase state time few small full last next)
    | inr other ↦ grind (nat_tests, arith, next_in_step first clocks phase state time few small full below other next)
  ]
]

expires_as_next : (first clocks phase state time : ℕ) → clocks < step_period → phase < step_period → state < 255 →
    next_in_cycle first time + phase ≡ time + step_period * steps_to_expiry state →
    (is_step_full clocks phase && expires_next state) ≡ nat_le (next_in_cycle first time) (time + clocks)
expires_as_next first clocks phase state time few small below next = elim (cases_eq state 0x7F) [
  | inl last ↦ grind (nat_tests, arith, next, steps-last)
  | inr other ↦ grind (nat_tests, arith, next, steps-shifted state below other, steps-within_cycle (shifted_timer state) (shifted-below state below))
]

state_byte : (clocks phase state : ℕ) → state < 256 → state_after clocks phase state < 256
state_byte clocks phase state is_byte = elim (cases_eq state 255) [
  | inl never ↦ omega (arith, state_never clocks phase state never)
  | inr other ↦ omega (arith, state_ever clocks phase state (omega arith))
]

-- a timer that runs goes on as the closed form says, and expires where that says so
pub keeps-expiries : (clocks : ℕ) (t : TimerState) → clocks < step_period → KeepsExpiries clocks t (timer_after clocks t) (expires_within clocks t)
keeps-expiries clocks t few byte loaded time as_loaded =
    let first = loaded + step_period * steps_to_expiry byte in
    let small = as_loaded.within_step in (
      record {
        is_byte = state_byte clocks t.phase t.state as_loaded.is_byte;
        within_step = phase_small clocks t.phase few small;
        past = omega (arith, as_loaded.past);
        never = λ same. state_never clocks t.phase t.state (as_loaded.never same);
        ever = λ other. state_ever clocks t.phase t.state (as_loaded.ever other);
        next = λ other. next_after first clocks t.phase t.state time few small (as_loaded.ever other) (as_loaded.next other);
      },
      elim (cases_eq byte 255) [
        | inl never ↦ grind (nat_tests, arith, as_loaded.never never)
        | inr other ↦ grind (nat_tests, arith, expires_as_next first clocks t.phase t.state time few small (as_loaded.ever other) (as_loaded.next other))
      ],
    )

-- the clocks to its expiry end at the closed form's next expiry
pub tells-next_expiry : (t : TimerState) → TellsNextExpiry t (clocks_to_expiry t)
tells-next_expiry t byte loaded time as_loaded = elim (cases_eq byte 255) [
  | inl never ↦ grind (nat_tests, arith, as_loaded.never never)
  | inr other ↦ grind (nat_tests, arith, as_loaded.ever other, as_loaded.next other, as_loaded.within_step)
]
