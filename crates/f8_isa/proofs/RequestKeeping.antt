-- What is kept of the requests of a chip stays as the history says: with time, and at each addition to it.
use Rattle.std.proofs.Common.{◌≡◌, ◌==◌, ◌||◌, ◌&&◌, ℕ, ◌+◌, ◌-◌, ◌*◌, ◌%◌, ◌<◌, ◌≤◌, Bool, true, false, inl, inr, List, []}
use Rattle.std.proofs.Common.{refl, sym, ap, ◌∙◌, eq-eqb, arith}
use Rattle.std.specs.Prelude.{not, nat_le, nat_lt, if◌then◌else◌, Option, Some, None}
use Rattle.std.proofs.lemmas.Bool.{cases_lt, cases_eq, ne_eqb}
use Rattle.std.proofs.lemmas.Bool.Decides.{nat_tests}
use Rattle.f8_spec.specs.ShiftTimer.{step_period, steps_to_expiry, next_in_cycle, expires_between, timer_loaded, clocks_to_expiry}
use Rattle.console_spec.specs.Writes.{latch_of}
use Rattle.console_spec.specs.InterruptRequests.{Mark, History, IsPast, ArePastWrites, ArePastMarks}
use Rattle.console_spec.specs.InterruptRequests.{time_of, last_load, last_write_time, has_expiry, has_mark}
use Rattle.console_spec.specs.InterruptRequests.{control_port, timer_port, since_of, request_by, has_request}
use Rattle.console_spec.specs.declared.PortWrite.{PortWrite}
use Rattle.console_spec.proofs.RequestLaws.{between-none, expiry-more, expiry-none, mark-more, mark-none, last_write-past, last_mark-past}
use Rattle.console_spec.proofs.RequestLaws.{after_write, after_acknowledgement, after_pulse}
use Rattle.f8_isa.specs.Requests.{expires_by, has_expired, asks_at, after_control, after_load, after_port_write, ended_at, with_pulse}
use Rattle.f8_isa.specs.Requests.{KnowsRequests}
use Rattle.f8_isa.specs.declared.requests.ChipRequests.{ChipRequests}

-- ---- expiries

-- the closed form by what is kept of a load
expires-kept : (byte load_time since until : ℕ) →
    expires_between byte load_time since until ≡ expires_by (clocks_to_expiry (timer_loaded byte)) load_time since until
expires-kept byte load_time since until = by_never (byte == 255) (step_period * steps_to_expiry byte)
  where
    by_never : (never : Bool) (clocks : ℕ) → (not never && nat_le (next_in_cycle (load_time + clocks) since) until)
        ≡ expires_by (if never then None else Some (clocks - 0)) load_time since until
    by_never true clocks = refl
    by_never false clocks = ap (λ (n : ℕ). nat_le (next_in_cycle (load_time + n) since) until) (omega arith)

or_turned : (a b : Bool) → (a || b) ≡ (b || a)
or_turned true true = refl
or_turned true false = refl
or_turned false true = refl
or_turned false false = refl

-- from a time on at which all loads lie behind, the last one says all
restarted : (port time until : ℕ) (ws : List PortWrite) (clocks : Option ℕ) (load_time : ℕ) →
    clocks ≡ clocks_to_expiry (timer_loaded (last_load port ws)) → load_time ≡ last_write_time port ws → ArePastWrites time ws →
    has_expiry port time until ws ≡ expires_by clocks load_time time until
restarted port time until ws clocks load_time e f past =
    let byte = last_load port ws in
    let load = last_write_time port ws in
    elim (cases_lt until time) [
      | inl early ↦ expiry-none port time until ws (omega arith) past ∙ sym (between-none byte load time until (omega arith)) ∙ kept byte load e f
      | inr from ↦
          expiry-more port time time until ws (omega arith) from
          ∙ ap (λ (b : Bool). b || expires_between byte load time until) (expiry-none port time time ws (omega arith) past)
          ∙ kept byte load e f
    ]
  where
    kept : (byte load : ℕ) → clocks ≡ clocks_to_expiry (timer_loaded byte) → load_time ≡ load →
        expires_between byte load time until ≡ expires_by clocks load_time time until
    kept byte load e f =
        expires-kept byte load time until
        ∙ ap (λ (c : Option ℕ). expires_by c load time until) (sym e)
        ∙ ap (λ (t : ℕ). expires_by clocks t time until) (sym f)

-- ---- what a chip asks for

-- a pulse counts under control 1 alone
request_by-pulses : (control : ℕ) (expired p q : Bool) → (control % 4 ≡ 1 → p ≡ q) → request_by control expired p ≡ request_by control expired q
request_by-pulses control expired p q same = by_low (control % 4) expired p q same
  where
    by_low : (low : ℕ) (expired p q : Bool) → (low ≡ 1 → p ≡ q) →
        (if low == 3 then expired else if low == 1 then p else false) ≡ (if low == 3 then expired else if low == 1 then q else false)
    by_low low expired p q same = elim (cases_eq low 1) [
      | inl one ↦ ap (λ (b : Bool). if low == 3 then expired else if low == 1 then b else false) (same one)
      | inr other ↦ rw (ne_eqb low 1 other) refl
    ]

-- from the time on up to which the history is known, until it gains something, what is kept tells whether the chip has a request
pub asks-is : (socket : ℕ) (h : History) (time later : ℕ) (k : ChipRequests) → KnowsRequests socket h time k → IsPast time h → time ≤ later →
    asks_at later k ≡ has_request k.first_port socket h later
asks-is socket h time later k knows past order =
    let port = timer_port k.first_port in
    request_by-pulses k.control (has_expired later k) k.pulsed (has_mark socket k.since later h.pulses)
    (λ one. knows.pulse one ∙ sym (mark-more socket k.since time later h.pulses order past.pulses))
    ∙ ap (λ (b : Bool). request_by k.control b (has_mark socket k.since later h.pulses)) (sym (knows.expiries later))
    ∙ ap (λ (s : ℕ). request_by k.control (has_expiry port s later h.writes) (has_mark socket s later h.pulses)) knows.ended
    ∙ ap (λ (c : ℕ). request_by c (has_expiry port (since_of k.first_port socket h) later h.writes)
    (has_mark socket (since_of k.first_port socket h) later h.pulses)) knows.control_byte

-- ---- with time

pulse_later : (socket : ℕ) (h : History) (time later : ℕ) (k : ChipRequests) → KnowsRequests socket h time k → IsPast time h → time ≤ later →
    k.control % 4 ≡ 1 → k.pulsed ≡ has_mark socket k.since later h.pulses
pulse_later socket h time later k knows past order one = knows.pulse one ∙ sym (mark-more socket k.since time later h.pulses order past.pulses)

pub knows-later : (socket : ℕ) (h : History) (time later : ℕ) (k : ChipRequests) → KnowsRequests socket h time k → IsPast time h → time ≤ later →
    KnowsRequests socket h later k
knows-later socket h time later k knows past order =
    let before = knows.ended_before in
    record {
      control_byte = knows.control_byte;
      ended = knows.ended;
      ended_before = omega arith;
      clocks = knows.clocks;
      load = knows.load;
      expiries = knows.expiries;
      pulse = pulse_later socket h time later k knows past order;
    }

-- ---- a write

none_since : (socket time later : ℕ) (ms : List Mark) → time ≤ later → ArePastMarks time ms → false ≡ has_mark socket time later ms
none_since socket time later ms order past = sym (mark-more socket time time later ms order past ∙ mark-none socket time time ms (omega arith))

pub knows-controlled : (socket : ℕ) (w : PortWrite) (h : History) (time later : ℕ) (k : ChipRequests) → w.port ≡ control_port k.first_port →
    time_of w < later → IsPast (time_of w) h → KnowsRequests socket h time k → KnowsRequests socket (after_write w h) later (after_control w k)
knows-controlled socket w h time later k port order past knows =
    let here = eq-eqb w.port (control_port k.first_port) port in
    let apart = ne_eqb w.port (timer_port k.first_port) (λ same. omega (arith, same, port)) in
    let marked = last_mark-past socket (time_of w) h.acknowledged past.acknowledged in
    record {
      control_byte = rw here refl;
      ended = rw here (omega (arith, marked));
      ended_before = order;
      clocks = rw apart knows.clocks;
      load = rw apart knows.load;
      expiries = λ until. rw apart (restarted (timer_port k.first_port) (time_of w) until h.writes k.to_expiry k.load_time knows.clocks knows.load past.writes);
      pulse = λ one. none_since socket (time_of w) later h.pulses (omega arith) past.pulses;
    }

pub knows-loaded : (socket : ℕ) (w : PortWrite) (h : History) (time later : ℕ) (k : ChipRequests) → w.port ≡ timer_port k.first_port →
    time ≤ later → IsPast time h → KnowsRequests socket h time k → KnowsRequests socket (after_write w h) later (after_load w k)
knows-loaded socket w h time later k port order past knows =
    let here = eq-eqb w.port (timer_port k.first_port) port in
    let apart = ne_eqb w.port (control_port k.first_port) (λ same. omega (arith, same, port)) in
    let before = knows.ended_before in
    record {
      control_byte = rw apart knows.control_byte;
      ended = rw apart knows.ended;
      ended_before = omega arith;
      clocks = rw here refl;
      load = rw here refl;
      expiries = λ until. rw here (
          ap (λ (b : Bool). expires_between w.byte (time_of w) k.since until || b) (knows.expiries (time_of w))
          ∙ or_turned (expires_between w.byte (time_of w) k.since until) (has_expired (time_of w) k)
          ∙ ap (λ (b : Bool). has_expired (time_of w) k || b) (expires-kept w.byte (time_of w) k.since until));
      pulse = pulse_later socket h time later k knows past order;
    }

pub knows-apart : (socket : ℕ) (w : PortWrite) (h : History) (time later : ℕ) (k : ChipRequests) → (w.port ≡ control_port k.first_port → ⊥) →
    (w.port ≡ timer_port k.first_port → ⊥) → time ≤ later → IsPast time h → KnowsRequests socket h time k →
    KnowsRequests socket (after_write w h) later k
knows-apart socket w h time later k no_control no_timer order past knows =
    let control = ne_eqb w.port (control_port k.first_port) no_control in
    let timer = ne_eqb w.port (timer_port k.first_port) no_timer in
    let before = knows.ended_before in
    record {
      control_byte = rw control knows.control_byte;
      ended = rw control knows.ended;
      ended_before = omega arith;
      clocks = rw timer knows.clocks;
      load = rw timer knows.load;
      expiries = λ until. rw timer (knows.expiries until);
      pulse = pulse_later socket h time later k knows past order;
    }

-- at its instruction's end
pub knows-written : (socket : ℕ) (w : PortWrite) (h : History) (time : ℕ) (k : ChipRequests) → time + 4 ≤ w.phi → IsPast time h → IsPast (time_of w) h →
    KnowsRequests socket h time k → KnowsRequests socket (after_write w h) w.phi (after_port_write w k)
knows-written socket w h time k order past past_then knows = elim (cases_eq w.port (control_port k.first_port)) [
  | inl control ↦
      rw (eq-eqb w.port (control_port k.first_port) control) (knows-controlled socket w h time w.phi k control (omega arith) past_then knows)
  | inr no_control ↦ elim (cases_eq w.port (timer_port k.first_port)) [
    | inl timer ↦
        rw (ne_eqb w.port (control_port k.first_port) no_control, eq-eqb w.port (timer_port k.first_port) timer)
        (knows-loaded socket w h time w.phi k timer (omega arith) past knows)
    | inr no_timer ↦
        rw (ne_eqb w.port (control_port k.first_port) no_control, ne_eqb w.port (timer_port k.first_port) no_timer)
        (knows-apart socket w h time w.phi k no_control no_timer (omega arith) past knows)
  ]
]

-- ---- an acknowledgement

pub knows-acknowledged : (socket : ℕ) (h : History) (time at later : ℕ) (k : ChipRequests) → at < later → IsPast at h →
    KnowsRequests socket h time k → KnowsRequests socket (after_acknowledgement socket at h) later (ended_at at k)
knows-acknowledged socket h time at later k order past knows =
    let here = eq-eqb socket socket refl in
    let written = last_write-past (control_port k.first_port) at h.writes past.writes in
    record {
      control_byte = knows.control_byte;
      ended = rw here (omega (arith, written));
      ended_before = order;
      clocks = knows.clocks;
      load = knows.load;
      expiries = λ until. restarted (timer_port k.first_port) at until h.writes k.to_expiry k.load_time knows.clocks knows.load past.writes;
      pulse = λ one. none_since socket at later h.pulses (omega arith) past.pulses;
    }

-- of another chip
pub knows-kept : (socket other phi : ℕ) (h : History) (time later : ℕ) (k : ChipRequests) → (other ≡ socket → ⊥) → time ≤ later → IsPast time h →
    KnowsRequests socket h time k → KnowsRequests socket (after_acknowledgement other phi h) later k
knows-kept socket other phi h time later k apart order past knows =
    let away = ne_eqb other socket apart in
    let before = knows.ended_before in
    record {
      control_byte = knows.control_byte;
      ended = rw away knows.ended;
      ended_before = omega arith;
      clocks = knows.clocks;
      load = knows.load;
      expiries = knows.expiries;
      pulse = pulse_later socket h time later k knows past order;
    }

-- ---- a pulse

with_pulse_clause : (socket : ℕ) (h k : History) (time : ℕ) (r : ChipRequests) (pulsed : Bool) → h.writes ≡ k.writes → h.acknowledged ≡ k.acknowledged →
    (r.control % 4 ≡ 1 → pulsed ≡ has_mark socket r.since time k.pulses) → KnowsRequests socket h time r →
    KnowsRequests socket (record h { pulses = k.pulses }) time (record r { pulsed = pulsed })
with_pulse_clause socket h k time r pulsed e f pulse knows = record {
  control_byte = knows.control_byte;
  ended = knows.ended;
  ended_before = knows.ended_before;
  clocks = knows.clocks;
  load = knows.load;
  expiries = knows.expiries;
  pulse = pulse;
}

pub knows-pulsed : (socket : ℕ) (h : History) (time : ℕ) (k : ChipRequests) → KnowsRequests socket h time k →
    KnowsRequests socket (after_pulse socket time h) time (with_pulse k)
knows-pulsed socket h time k knows =
    with_pulse_clause socket h (after_pulse socket time h) time k true refl refl
    (λ one. comes (socket == socket) k.since time (has_mark socket k.since time h.pulses) (eq-eqb socket socket refl) knows.ended_before) knows
  where
    comes : (here : Bool) (since time : ℕ) (rest : Bool) → here ≡ true → since < time →
        true ≡ ((here && nat_lt since time && nat_le time time) || rest)
    comes here since time rest e later = grind (nat_tests, arith)

-- at another chip
pub knows-unpulsed : (socket other phi : ℕ) (h : History) (time : ℕ) (k : ChipRequests) → (other ≡ socket → ⊥) → KnowsRequests socket h time k →
    KnowsRequests socket (after_pulse other phi h) time k
knows-unpulsed socket other phi h time k apart knows =
    with_pulse_clause socket h (after_pulse other phi h) time k k.pulsed refl refl (λ one. rw (ne_eqb other socket apart) (knows.pulse one)) knows

-- under control 0, whatever is kept of it
pub knows-early : (socket other phi : ℕ) (h : History) (time : ℕ) (k : ChipRequests) (pulsed : Bool) → h.writes ≡ [] → KnowsRequests socket h time k →
    KnowsRequests socket (after_pulse other phi h) time (record k { pulsed = pulsed })
knows-early socket other phi h time k pulsed none knows =
    with_pulse_clause socket h (after_pulse other phi h) time k pulsed refl refl
    (λ one. absurd (omega (arith, one, knows.control_byte ∙ ap (latch_of (control_port k.first_port)) none))) knows
