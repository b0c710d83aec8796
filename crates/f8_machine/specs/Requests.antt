-- A chip's timer and latched request beside the history of a run, by which it has or hasn't a request.
use Rattle.std.specs.Prelude.{◌≡◌, ℕ, Bool, false, ◌&&◌, ◌||◌}
use Rattle.f8_spec.specs.ShiftTimer.{TimerState, timer_after, expires_within, ExpiresAsLoaded}
use Rattle.f8_spec.specs.ChipState.{ChipView, admits_pulses, admits_expiries}
use Rattle.console_spec.specs.Writes.{latch_of}
use Rattle.console_spec.specs.InterruptRequests.{History, control_port, timer_port, last_load, last_write_time, has_request}

-- ---- what a chip keeps for its requests

pub record Device : Type 0 where
  pub control : ℕ
  pub timer : ℕ
  pub phase : ℕ
  pub request : Bool

abbrev pub device_of : ChipView → Device
device_of v = record { control = v.control; timer = v.timer; phase = v.phase; request = v.request }

abbrev pub device_timer : Device → TimerState
device_timer d = record { state = d.timer; phase = d.phase }

-- at power-on
abbrev pub idle_device : Device
idle_device = record { control = 0; timer = 255; phase = 0; request = false }

-- after some clocks, fewer than 31
abbrev pub device_passed : ℕ → Device → Device
device_passed clocks d = record {
  control = d.control;
  timer = (timer_after clocks (device_timer d)).state;
  phase = (timer_after clocks (device_timer d)).phase;
  request = d.request || (admits_expiries d.control && expires_within clocks (device_timer d));
}

-- after a control write, a load of the timer, an acknowledgement and a pulse
abbrev pub device_controlled : ℕ → Device → Device
device_controlled byte d = record d { control = byte; request = false }

abbrev pub device_loaded : ℕ → Device → Device
device_loaded byte d = record d { timer = byte; phase = 0 }

abbrev pub device_ended : Device → Device
device_ended d = record d { request = false }

abbrev pub device_pulsed : Device → Device
device_pulsed d = record d { request = d.request || admits_pulses d.control }

-- ---- beside the history

-- the chip in a socket, with its first port, is as the history up to a time says
pub record IsDevice (first chip : ℕ) (h : History) (time : ℕ) (d : Device) : Type 0 where
  pub control_byte : d.control ≡ latch_of (control_port first) h.writes
  pub asks : d.request ≡ has_request first chip h time
  pub timed : ExpiresAsLoaded (last_load (timer_port first) h.writes) (last_write_time (timer_port first) h.writes) time (device_timer d)
