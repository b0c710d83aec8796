-- A chip's timer and latched request stay as the history says: with time, and at each addition to it.
use Rattle.std.proofs.Common.{◌≡◌, ◌==◌, ◌&&◌, ◌||◌, ℕ, ◌+◌, ◌%◌, ◌<◌, Bool, true, false, refl, sym, ap, ◌∙◌, eq-eqb, arith}
use Rattle.std.proofs.lemmas.Bool.{ne_eqb}
use Rattle.std.specs.Prelude.{if◌then◌else◌}
use Rattle.f8_spec.specs.ShiftTimer.{TimerState, step_period, expires_between, ExpiresAsLoaded}
use Rattle.f8_spec.specs.ChipState.{ChipView, pulsed, admits_pulses}
use Rattle.f8_spec.proofs.TimerExpiry.{expires-idle, expires-loaded, keeps-expiries}
use Rattle.console_spec.specs.Writes.{latch_of}
use Rattle.console_spec.specs.InterruptRequests.{History, IsPast, no_history, time_of}
use Rattle.console_spec.specs.InterruptRequests.{control_port, timer_port, last_load, last_write_time, since_of, has_request}
use Rattle.console_spec.specs.declared.PortWrite.{PortWrite}
use Rattle.console_spec.proofs.RequestLaws.{request-more, request-apart, request-controlled, request-loaded}
use Rattle.console_spec.proofs.RequestLaws.{after_write, after_acknowledgement, after_pulse}
use Rattle.console_spec.proofs.RequestLaws.{request-acknowledged, request-kept, request-pulsed, request-unpulsed}
use Rattle.f8_machine.specs.Requests.{Device, IsDevice, device_of, device_timer, idle_device, device_passed, device_controlled}
use Rattle.f8_machine.specs.Requests.{device_loaded, device_ended, device_pulsed}

-- ---- the chip's side

pulse_by : (lets_in : Bool) (v : ChipView) →
    device_of (if lets_in then record v { request = true } else v) ≡ record (device_of v) { request = v.request || lets_in }
pulse_by true v = ap (λ (b : Bool). record (device_of v) { request = b }) (always v.request)
  where
    always : (b : Bool) → true ≡ (b || true)
    always true = refl
    always false = refl
pulse_by false v = ap (λ (b : Bool). record (device_of v) { request = b }) (same v.request)
  where
    same : (b : Bool) → b ≡ (b || false)
    same true = refl
    same false = refl

pub device_of-pulsed : (v : ChipView) → device_of (pulsed v) ≡ device_pulsed (device_of v)
device_of-pulsed v = pulse_by (admits_pulses v.control) v

-- ---- power-on and time

pub device_idle : (first chip time : ℕ) → IsDevice first chip no_history time idle_device
device_idle first chip time = record { control_byte = refl; asks = refl; timed = expires-idle time }

pub device_more : (first chip clocks time : ℕ) (h : History) (d : Device) → clocks < step_period → IsPast time h → IsDevice first chip h time d →
    IsDevice first chip h (time + clocks) (device_passed clocks d)
device_more first chip clocks time h d few past is =
    let byte = last_load (timer_port first) h.writes in
    let loaded = last_write_time (timer_port first) h.writes in
    let keeps = keeps-expiries clocks (device_timer d) few byte loaded time is.timed in
    record {
      control_byte = is.control_byte;
      asks =
          ap (λ (b : Bool). d.request || ((d.control % 4 == 3) && b)) keeps.1
          ∙ ap (λ (c : ℕ). d.request || ((c % 4 == 3) && expires_between byte loaded time (time + clocks))) is.control_byte
          ∙ ap (λ (b : Bool). b || ((latch_of (control_port first) h.writes % 4 == 3) && expires_between byte loaded time (time + clocks))) is.asks
          ∙ sym (request-more first chip h time (time + clocks) past (omega arith));
      timed = keeps.0;
    }

-- ---- a write, at its own time

timed_other : (port time : ℕ) (w : PortWrite) (h : History) (t : TimerState) → (w.port ≡ port → ⊥) →
    ExpiresAsLoaded (last_load port h.writes) (last_write_time port h.writes) time t →
    ExpiresAsLoaded (last_load port (after_write w h).writes) (last_write_time port (after_write w h).writes) time t
timed_other port time w h t apart timed = rw (ne_eqb w.port port apart) timed

pub device_control : (first chip time : ℕ) (w : PortWrite) (h : History) (d : Device) → w.port ≡ control_port first → time_of w ≡ time → IsPast time h →
    IsDevice first chip h time d → IsDevice first chip (after_write w h) time (device_controlled w.byte d)
device_control first chip time w h d port now past is = record {
  control_byte = rw (eq-eqb w.port (control_port first) port) refl;
  asks = sym (request-controlled first chip w h time port now past);
  timed = timed_other (timer_port first) time w h (device_timer d) (λ same. omega (arith, same, port)) is.timed;
}

pub device_loaded_timer : (first chip time : ℕ) (w : PortWrite) (h : History) (d : Device) → w.port ≡ timer_port first → time_of w ≡ time → w.byte < 256 →
    IsDevice first chip h time d → IsDevice first chip (after_write w h) time (device_loaded w.byte d)
device_loaded_timer first chip time w h d port now is_byte is = record {
  control_byte = rw (ne_eqb w.port (control_port first) (λ same. omega (arith, same, port))) is.control_byte;
  asks = is.asks ∙ sym (request-loaded first chip w h time port now is_byte);
  timed = rw (eq-eqb w.port (timer_port first) port, now) (expires-loaded w.byte time is_byte);
}

-- to a port that is neither the control nor the timer of the chip
pub device_apart : (first chip time : ℕ) (w : PortWrite) (h : History) (d : Device) → (w.port ≡ control_port first → ⊥) →
    (w.port ≡ timer_port first → ⊥) → IsDevice first chip h time d → IsDevice first chip (after_write w h) time d
device_apart first chip time w h d no_control no_timer is = record {
  control_byte = rw (ne_eqb w.port (control_port first) no_control) is.control_byte;
  asks = is.asks ∙ sym (request-apart first chip w h time no_control no_timer);
  timed = timed_other (timer_port first) time w h (device_timer d) no_timer is.timed;
}

-- ---- an acknowledgement and a pulse, at their own time

pub device_acknowledged : (first chip time : ℕ) (h : History) (d : Device) → IsPast time h → IsDevice first chip h time d →
    IsDevice first chip (after_acknowledgement chip time h) time (device_ended d)
device_acknowledged first chip time h d past is = record {
  control_byte = is.control_byte;
  asks = sym (request-acknowledged first chip h time past);
  timed = is.timed;
}

pub device_pulse : (first chip time : ℕ) (h : History) (d : Device) → since_of first chip h < time → IsDevice first chip h time d →
    IsDevice first chip (after_pulse chip time h) time (device_pulsed d)
device_pulse first chip time h d later is = record {
  control_byte = is.control_byte;
  asks =
      ap (λ (b : Bool). b || (d.control % 4 == 1)) is.asks
      ∙ ap (λ (c : ℕ). has_request first chip h time || (c % 4 == 1)) is.control_byte
      ∙ sym (request-pulsed first chip h time later);
  timed = is.timed;
}

-- those of another chip
pub device_kept : (first chip other phi time : ℕ) (h : History) (d : Device) → (other ≡ chip → ⊥) → IsDevice first chip h time d →
    IsDevice first chip (after_acknowledgement other phi h) time d
device_kept first chip other phi time h d apart is = record {
  control_byte = is.control_byte;
  asks = is.asks ∙ sym (request-kept first chip other phi h time apart);
  timed = is.timed;
}

pub device_unpulsed : (first chip other phi time : ℕ) (h : History) (d : Device) → (other ≡ chip → ⊥) → IsDevice first chip h time d →
    IsDevice first chip (after_pulse other phi h) time d
device_unpulsed first chip other phi time h d apart is = record {
  control_byte = is.control_byte;
  asks = is.asks ∙ sym (request-unpulsed first chip other phi h time apart);
  timed = is.timed;
}
