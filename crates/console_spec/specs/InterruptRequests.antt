-- The requests for an interrupt in closed form, by the history of a run and without a timer that runs (Mostek 3851 data sheet in
-- outline). When a write and an acknowledgement count, and the rules of a request, are this project's own.
use Rattle.std.specs.Prelude.{ℕ, ◌+◌, ◌-◌, ◌≤◌, Bool, false, ◌&&◌, ◌||◌, ◌==◌, nat_lt, nat_le, max, if◌then◌else◌}
use Rattle.std.specs.Prelude.{List, [], ◌∷◌}
use Rattle.f8_spec.specs.ShiftTimer.{expires_between}
use Rattle.f8_spec.specs.ChipState.{admits_pulses, admits_expiries}
use Rattle.console_spec.specs.Writes.{latch_of}
use Rattle.console_spec.specs.declared.PortWrite.{PortWrite}

-- ---- a history. Times are clocks since power-on, in Φ.

-- what came to the chip in a socket, and when
pub record Mark : Type 0 where
  pub chip : ℕ
  pub phi : ℕ

-- the writes that ports took, the interrupts that chips had acknowledged, and the pulses at their pins, the last one first
pub record History : Type 0 where
  pub writes : List PortWrite
  pub acknowledged : List Mark
  pub pulses : List Mark

abbrev pub no_history : History
no_history = record { writes = []; acknowledged = []; pulses = [] }

abbrev pub with_mark : ℕ → ℕ → List Mark → List Mark
with_mark chip phi marks = record { chip = chip; phi = phi } ∷ marks

-- A port takes a write, and an interrupt is acknowledged, 4 Φ before the end of the instruction: with its last fetch still to come.
abbrev pub effect_time : ℕ → ℕ
effect_time ending = ending - 4

-- a write has the clocks at its instruction's end
abbrev pub time_of : PortWrite → ℕ
time_of w = effect_time w.phi

-- the time of the last write to a port, and 0 before the first
abbrev pub last_write_time : ℕ → List PortWrite → ℕ
last_write_time port [] = 0
last_write_time port (w ∷ ws) = if w.port == port then time_of w else last_write_time port ws

-- the byte that a timer was last loaded with by its port; one never loaded is like one loaded with 255
abbrev pub last_load : ℕ → List PortWrite → ℕ
last_load port [] = 255
last_load port (w ∷ ws) = if w.port == port then w.byte else last_load port ws

-- the time of the last mark of a chip, and 0 before the first
abbrev pub last_mark_time : ℕ → List Mark → ℕ
last_mark_time chip [] = 0
last_mark_time chip (m ∷ ms) = if m.chip == chip then m.phi else last_mark_time chip ms

-- nothing of a history lies after a time
abbrev pub ArePastWrites : ℕ → List PortWrite → Type 0
ArePastWrites time [] = Unit {0}
ArePastWrites time (w ∷ ws) = (time_of w ≤ time) × ArePastWrites time ws

abbrev pub ArePastMarks : ℕ → List Mark → Type 0
ArePastMarks time [] = Unit {0}
ArePastMarks time (m ∷ ms) = (m.phi ≤ time) × ArePastMarks time ms

pub record IsPast (time : ℕ) (h : History) : Type 0 where
  pub writes : ArePastWrites time h.writes
  pub acknowledged : ArePastMarks time h.acknowledged
  pub pulses : ArePastMarks time h.pulses

-- ---- what came after one time and up to another

-- An expiry of the timer at a port, by all its loads: each counts up to the time of the next one, that time included.
abbrev pub has_expiry : ℕ → ℕ → ℕ → List PortWrite → Bool
has_expiry port since until [] = false
has_expiry port since until (w ∷ ws) =
    if w.port == port then expires_between w.byte (time_of w) since until || has_expiry port since (time_of w) ws else
    has_expiry port since until ws

-- a mark of a chip
abbrev pub has_mark : ℕ → ℕ → ℕ → List Mark → Bool
has_mark chip since until [] = false
has_mark chip since until (m ∷ ms) =
    ((m.chip == chip) && nat_lt since m.phi && nat_le m.phi until) || has_mark chip since until ms

-- ---- a request

-- the ports of a chip, from its first one on
abbrev pub control_port : ℕ → ℕ
control_port first = first + 2

abbrev pub timer_port : ℕ → ℕ
timer_port first = first + 3

-- A control write and an acknowledgement end what a chip asked for: it asks for what came after the later of the two.
abbrev pub since_of : ℕ → ℕ → History → ℕ
since_of first chip h = max (last_write_time (control_port first) h.writes) (last_mark_time chip h.acknowledged)

-- By its control a chip asks for an expiry of its timer, for a pulse, or for nothing.
abbrev pub request_by : ℕ → Bool → Bool → Bool
request_by control expired pulsed =
    if admits_expiries control then expired else
    if admits_pulses control then pulsed else
    false

-- the chip in a socket, with its first port, has a request at a time
abbrev pub has_request : ℕ → ℕ → History → ℕ → Bool
has_request first chip h time =
    let since = since_of first chip h in
    request_by (latch_of (control_port first) h.writes) (has_expiry (timer_port first) since time h.writes)
    (has_mark chip since time h.pulses)
