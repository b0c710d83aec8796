-- How a request goes on with time, and what each addition to a history does to it.
use Rattle.std.proofs.Common.{◌≡◌, ◌==◌, ◌&&◌, ◌||◌, ℕ, ◌+◌, ◌*◌, ◌%◌, ◌<◌, ◌≤◌, Bool, true, false, inl, inr, List, [], ◌∷◌}
use Rattle.std.proofs.Common.{refl, ap, ◌∙◌, eq-eqb, arith}
use Rattle.std.specs.Prelude.{not, nat_lt, nat_le, if◌then◌else◌}
use Rattle.std.proofs.lemmas.Bool.{cases_lt, cases_eq, ne_eqb}
use Rattle.std.proofs.lemmas.Bool.Decides.{nat_tests}
use Rattle.f8_spec.specs.ShiftTimer.{step_period, steps_to_expiry, next_in_cycle, expires_between}
use Rattle.f8_spec.proofs.TimerCycle.{steps-within_cycle}
use Rattle.f8_spec.proofs.TimerPeriod.{next-after, next-stays}
use Rattle.console_spec.specs.Writes.{latch_of}
use Rattle.console_spec.specs.InterruptRequests.{Mark, History, time_of, last_write_time, last_load, last_mark_time}
use Rattle.console_spec.specs.InterruptRequests.{with_mark, ArePastWrites, ArePastMarks}
use Rattle.console_spec.specs.InterruptRequests.{IsPast, has_expiry, has_mark, control_port, timer_port, since_of}
use Rattle.console_spec.specs.InterruptRequests.{request_by, has_request}
use Rattle.console_spec.specs.declared.PortWrite.{PortWrite}

-- ---- what is added to a history

abbrev pub after_write : PortWrite → History → History
after_write w h = record h { writes = w ∷ h.writes }

abbrev pub after_acknowledgement : ℕ → ℕ → History → History
after_acknowledgement chip phi h = record h { acknowledged = with_mark chip phi h.acknowledged }

abbrev pub after_pulse : ℕ → ℕ → History → History
after_pulse chip phi h = record h { pulses = with_mark chip phi h.pulses }

-- ---- expiries

-- what lies up to a later time lies up to an earlier one, or else it is the next behind that
tests_more : (first next time until : ℕ) → time ≤ until → (time < first → next ≡ first) →
    nat_le first until ≡ (nat_le first time || nat_le next until)
tests_more first next time until order stays = elim (cases_lt time first) [
  | inl before ↦ let same : next ≡ first = stays before in grind (nat_tests, arith)
  | inr reached ↦ grind (nat_tests, arith)
]

-- an expiry up to a later time comes up to an earlier one or after that
pub between-more : (byte loaded since time until : ℕ) → since ≤ time → time ≤ until →
    expires_between byte loaded since until ≡ (expires_between byte loaded since time || expires_between byte loaded time until)
between-more byte loaded since time until before order =
    let first = loaded + step_period * steps_to_expiry byte in
    by_never (not (byte == 255)) _ _ _
    (tests_more (next_in_cycle first since) (next_in_cycle first time) time until order (λ later. next-stays first since time before later))
  where
    by_never : (expires long short rest : Bool) → long ≡ (short || rest) → (expires && long) ≡ ((expires && short) || (expires && rest))
    by_never false long short rest e = refl
    by_never true long short rest e = e

-- none comes after a time and up to it, or up to an earlier one
pub between-none : (byte loaded since until : ℕ) → until ≤ since → expires_between byte loaded since until ≡ false
between-none byte loaded since until order =
    let first = loaded + step_period * steps_to_expiry byte in
    let later : since < next_in_cycle first since = next-after first since in
    by_never (not (byte == 255)) (nat_le (next_in_cycle first since) until) (grind (nat_tests, arith, later))
  where
    by_never : (expires long : Bool) → long ≡ false → (expires && long) ≡ false
    by_never false long e = refl
    by_never true long e = e

-- nor in the time of the load itself
pub between-loaded : (byte loaded since : ℕ) → byte < 256 → expires_between byte loaded since loaded ≡ false
between-loaded byte loaded since is_byte = elim (cases_eq byte 255) [
  | inl never ↦ rw (eq-eqb byte 255 never) refl
  | inr other ↦ let some = steps-within_cycle byte (omega arith) in
      by_never (not (byte == 255)) _ (before_first (loaded + step_period * steps_to_expiry byte) loaded since (omega (arith, some)))
]
  where
    by_never : (expires long : Bool) → long ≡ false → (expires && long) ≡ false
    by_never false long e = refl
    by_never true long e = e

    before_first : (first time since : ℕ) → time < first → nat_le (next_in_cycle first since) time ≡ false
    before_first first time since early = grind (nat_tests, arith)

or_swap : (a b rest : Bool) → ((a || b) || rest) ≡ ((a || rest) || b)
or_swap true b rest = refl
or_swap false true true = refl
or_swap false true false = refl
or_swap false false true = refl
or_swap false false false = refl

more_at : (here : Bool) (byte loaded byte_before loaded_before since time until : ℕ) (rest old new : Bool) → since ≤ time → time ≤ until →
    new ≡ (old || expires_between byte_before loaded_before time until) →
    (if here then expires_between byte loaded since until || rest else new)
    ≡ ((if here then expires_between byte loaded since time || rest else old)
    || expires_between (if here then byte else byte_before) (if here then loaded else loaded_before) time until)
more_at true byte loaded byte_before loaded_before since time until rest old new before order e =
    ap (λ (b : Bool). b || rest) (between-more byte loaded since time until before order)
    ∙ or_swap (expires_between byte loaded since time) (expires_between byte loaded time until) rest
more_at false byte loaded byte_before loaded_before since time until rest old new before order e = e

-- what a port's loads have up to a later time they have up to an earlier one, or the last load has it after that
pub expiry-more : (port since time until : ℕ) (ws : List PortWrite) → since ≤ time → time ≤ until →
    has_expiry port since until ws
    ≡ (has_expiry port since time ws || expires_between (last_load port ws) (last_write_time port ws) time until)
expiry-more port since time until [] before order = refl
expiry-more port since time until (w ∷ ws) before order =
    more_at (w.port == port) w.byte (time_of w) (last_load port ws) (last_write_time port ws) since time until
    (has_expiry port since (time_of w) ws) (has_expiry port since time ws) (has_expiry port since until ws) before order
    (expiry-more port since time until ws before order)

none_at : (here now rest before : Bool) → now ≡ false → rest ≡ false → before ≡ false → (if here then now || rest else before) ≡ false
none_at true now rest before e f g = ap (λ (b : Bool). b || rest) e ∙ f
none_at false now rest before e f g = g

pub expiry-none : (port since until : ℕ) (ws : List PortWrite) → until ≤ since → ArePastWrites since ws → has_expiry port since until ws ≡ false
expiry-none port since until [] order past = refl
expiry-none port since until (w ∷ ws) order past =
    none_at (w.port == port) (expires_between w.byte (time_of w) since until) (has_expiry port since (time_of w) ws) (has_expiry port since until ws)
    (between-none w.byte (time_of w) since until order) (expiry-none port since (time_of w) ws past.0 past.1)
    (expiry-none port since until ws order past.1)

-- ---- marks

pub mark-more : (chip since time until : ℕ) (ms : List Mark) → time ≤ until → ArePastMarks time ms →
    has_mark chip since until ms ≡ has_mark chip since time ms
mark-more chip since time until [] order past = refl
mark-more chip since time until (m ∷ ms) order past =
    let here : nat_le m.phi until ≡ nat_le m.phi time = both_true m.phi time until order past.0 in
    ap (λ (b : Bool). ((m.chip == chip) && nat_lt since m.phi && b) || has_mark chip since until ms) here
    ∙ ap (λ (b : Bool). ((m.chip == chip) && nat_lt since m.phi && nat_le m.phi time) || b) (mark-more chip since time until ms order past.1)
  where
    both_true : (phi time until : ℕ) → time ≤ until → phi ≤ time → nat_le phi until ≡ nat_le phi time
    both_true phi time until order past = grind (nat_tests, arith)

pub mark-none : (chip since until : ℕ) (ms : List Mark) → until ≤ since → has_mark chip since until ms ≡ false
mark-none chip since until [] order = refl
mark-none chip since until (m ∷ ms) order =
    first_none (m.chip == chip) m.phi since until (has_mark chip since until ms) order (mark-none chip since until ms order)
  where
    first_none : (here : Bool) (phi since until : ℕ) (rest : Bool) → until ≤ since → rest ≡ false →
        ((here && nat_lt since phi && nat_le phi until) || rest) ≡ false
    first_none here phi since until rest order e = grind (nat_tests, arith)

-- ---- times of a history that is past

if_past : (here : Bool) (now before time : ℕ) → now ≤ time → before ≤ time → (if here then now else before) ≤ time
if_past true now before time e f = e
if_past false now before time e f = f

pub last_write-past : (port time : ℕ) (ws : List PortWrite) → ArePastWrites time ws → last_write_time port ws ≤ time
last_write-past port time [] past = omega arith
last_write-past port time (w ∷ ws) past = if_past (w.port == port) (time_of w) (last_write_time port ws) time past.0 (last_write-past port time ws past.1)

pub last_mark-past : (chip time : ℕ) (ms : List Mark) → ArePastMarks time ms → last_mark_time chip ms ≤ time
last_mark-past chip time [] past = omega arith
last_mark-past chip time (m ∷ ms) past = if_past (m.chip == chip) m.phi (last_mark_time chip ms) time past.0 (last_mark-past chip time ms past.1)

pub since-past : (first chip time : ℕ) (h : History) → IsPast time h → since_of first chip h ≤ time
since-past first chip time h past =
    let written = last_write-past (control_port first) time h.writes past.writes in
    let marked = last_mark-past chip time h.acknowledged past.acknowledged in
    omega (arith, written, marked)

pub writes_later : (time later : ℕ) (ws : List PortWrite) → time ≤ later → ArePastWrites time ws → ArePastWrites later ws
writes_later time later [] order past = tt
writes_later time later (w ∷ ws) order past = let here = past.0 in (omega arith, writes_later time later ws order past.1)

pub marks_later : (time later : ℕ) (ms : List Mark) → time ≤ later → ArePastMarks time ms → ArePastMarks later ms
marks_later time later [] order past = tt
marks_later time later (m ∷ ms) order past = let here = past.0 in (omega arith, marks_later time later ms order past.1)

pub past-later : (time later : ℕ) (h : History) → time ≤ later → IsPast time h → IsPast later h
past-later time later h order past = record {
  writes = writes_later time later h.writes order past.writes;
  acknowledged = marks_later time later h.acknowledged order past.acknowledged;
  pulses = marks_later time later h.pulses order past.pulses;
}

pub past-written : (w : PortWrite) (time : ℕ) (h : History) → time_of w ≤ time → IsPast time h → IsPast time (after_write w h)
past-written w time h order past = record {
  writes = (order, past.writes);
  acknowledged = past.acknowledged;
  pulses = past.pulses;
}

pub past-acknowledged : (chip phi time : ℕ) (h : History) → phi ≤ time → IsPast time h → IsPast time (after_acknowledgement chip phi h)
past-acknowledged chip phi time h order past = record {
  writes = past.writes;
  acknowledged = (order, past.acknowledged);
  pulses = past.pulses;
}

pub past-pulsed : (chip phi time : ℕ) (h : History) → phi ≤ time → IsPast time h → IsPast time (after_pulse chip phi h)
past-pulsed chip phi time h order past = record {
  writes = past.writes;
  acknowledged = past.acknowledged;
  pulses = (order, past.pulses);
}

-- ---- requests

request_by-more : (control : ℕ) (expired more pulsed : Bool) →
    request_by control (expired || more) pulsed ≡ (request_by control expired pulsed || ((control % 4 == 3) && more))
request_by-more control expired more pulsed = by_tests (control % 4 == 3) (control % 4 == 1) expired more pulsed
  where
    by_tests : (timer pin expired more pulsed : Bool) →
        (if timer then expired || more else if pin then pulsed else false) ≡ ((if timer then expired else if pin then pulsed else false) || (timer && more))
    by_tests true pin expired more pulsed = refl
    by_tests false true expired more true = refl
    by_tests false true expired more false = refl
    by_tests false false expired more pulsed = refl

request_by-none : (control : ℕ) → request_by control false false ≡ false
request_by-none control = by_tests (control % 4 == 3) (control % 4 == 1)
  where
    by_tests : (timer pin : Bool) → (if timer then false else if pin then false else false) ≡ false
    by_tests true pin = refl
    by_tests false true = refl
    by_tests false false = refl

request_by-pulsed : (control : ℕ) (expired pulsed : Bool) →
    request_by control expired true ≡ (request_by control expired pulsed || (control % 4 == 1))
request_by-pulsed control expired pulsed = by_low (control % 4) expired pulsed
  where
    by_low : (low : ℕ) (expired pulsed : Bool) →
        (if low == 3 then expired else if low == 1 then true else false)
        ≡ ((if low == 3 then expired else if low == 1 then pulsed else false) || (low == 1))
    by_low low expired pulsed = grind (nat_tests, arith)

-- with time a request comes where the timer expires under control 3, and none ends
pub request-more : (first chip : ℕ) (h : History) (time until : ℕ) → IsPast time h → time ≤ until →
    has_request first chip h until
    ≡ (has_request first chip h time || ((latch_of (control_port first) h.writes % 4 == 3)
    && expires_between (last_load (timer_port first) h.writes) (last_write_time (timer_port first) h.writes) time until))
request-more first chip h time until past order =
    let control = latch_of (control_port first) h.writes in
    let since = since_of first chip h in
    let expired = has_expiry (timer_port first) since time h.writes in
    let more = expires_between (last_load (timer_port first) h.writes) (last_write_time (timer_port first) h.writes) time until in
    ap (λ (b : Bool). request_by control b (has_mark chip since until h.pulses))
    (expiry-more (timer_port first) since time until h.writes (since-past first chip time h past) order)
    ∙ ap (λ (b : Bool). request_by control (expired || more) b) (mark-more chip since time until h.pulses order past.pulses)
    ∙ request_by-more control expired more (has_mark chip since time h.pulses)

-- up to the control write or the acknowledgement itself there is none
pub no-request : (first chip : ℕ) (h : History) (time : ℕ) → since_of first chip h ≡ time → ArePastWrites time h.writes → has_request first chip h time ≡ false
no-request first chip h time same past =
    let control = latch_of (control_port first) h.writes in
    let port = timer_port first in
    ap (λ (since : ℕ). request_by control (has_expiry port since time h.writes) (has_mark chip since time h.pulses)) same
    ∙ ap (λ (b : Bool). request_by control b (has_mark chip time time h.pulses)) (expiry-none port time time h.writes (omega arith) past)
    ∙ ap (λ (b : Bool). request_by control false b) (mark-none chip time time h.pulses (omega arith))
    ∙ request_by-none control

-- a request hangs on the control byte, on when that was written or an interrupt acknowledged, and on what came since
pub request-same : (first chip : ℕ) (h k : History) (time : ℕ) → latch_of (control_port first) h.writes ≡ latch_of (control_port first) k.writes →
    since_of first chip h ≡ since_of first chip k →
    ((since : ℕ) → has_expiry (timer_port first) since time h.writes ≡ has_expiry (timer_port first) since time k.writes) →
    ((since : ℕ) → has_mark chip since time h.pulses ≡ has_mark chip since time k.pulses) → has_request first chip h time ≡ has_request first chip k time
request-same first chip h k time controls sinces expiries pulses =
    let control = latch_of (control_port first) k.writes in
    let since = since_of first chip k in
    let port = timer_port first in
    ap (λ (c : ℕ). request_by c (has_expiry port (since_of first chip h) time h.writes) (has_mark chip (since_of first chip h) time h.pulses)) controls
    ∙ ap (λ (s : ℕ). request_by control (has_expiry port s time h.writes) (has_mark chip s time h.pulses)) sinces
    ∙ ap (λ (b : Bool). request_by control b (has_mark chip since time h.pulses)) (expiries since)
    ∙ ap (λ (b : Bool). request_by control (has_expiry port since time k.writes) b) (pulses since)

-- ---- a write

-- to a port that is neither the control nor the timer of the chip
pub request-apart : (first chip : ℕ) (w : PortWrite) (h : History) (time : ℕ) → (w.port ≡ control_port first → ⊥) → (w.port ≡ timer_port first → ⊥) →
    has_request first chip (after_write w h) time ≡ has_request first chip h time
request-apart first chip w h time no_control no_timer =
    let control = ne_eqb w.port (control_port first) no_control in
    let timer = ne_eqb w.port (timer_port first) no_timer in
    request-same first chip (after_write w h) h time (rw control refl) (rw control refl) (λ since. rw timer refl) (λ since. refl)

-- a control write ends it
pub request-controlled : (first chip : ℕ) (w : PortWrite) (h : History) (time : ℕ) → w.port ≡ control_port first → time_of w ≡ time → IsPast time h →
    has_request first chip (after_write w h) time ≡ false
request-controlled first chip w h time port now past =
    let here = eq-eqb w.port (control_port first) port in
    let marked = last_mark-past chip time h.acknowledged past.acknowledged in
    no-request first chip (after_write w h) time (rw here (omega (arith, now, marked))) (omega (arith, now), past.writes)

-- a load of the timer leaves it
pub request-loaded : (first chip : ℕ) (w : PortWrite) (h : History) (time : ℕ) → w.port ≡ timer_port first → time_of w ≡ time → w.byte < 256 →
    has_request first chip (after_write w h) time ≡ has_request first chip h time
request-loaded first chip w h time port now is_byte =
    let control = ne_eqb w.port (control_port first) (λ same. omega (arith, same, port)) in
    let timer = eq-eqb w.port (timer_port first) port in
    request-same first chip (after_write w h) h time (rw control refl) (rw control refl)
    (λ since. rw (timer, now, between-loaded w.byte time since is_byte) refl) (λ since. refl)

-- ---- an acknowledgement and a pulse

pub request-acknowledged : (first chip : ℕ) (h : History) (time : ℕ) → IsPast time h →
    has_request first chip (after_acknowledgement chip time h) time ≡ false
request-acknowledged first chip h time past =
    let here = eq-eqb chip chip refl in
    let written = last_write-past (control_port first) time h.writes past.writes in
    no-request first chip (after_acknowledgement chip time h) time (rw here (omega (arith, written))) past.writes

pub request-kept : (first chip other phi : ℕ) (h : History) (time : ℕ) → (other ≡ chip → ⊥) →
    has_request first chip (after_acknowledgement other phi h) time ≡ has_request first chip h time
request-kept first chip other phi h time apart =
    let away = ne_eqb other chip apart in
    request-same first chip (after_acknowledgement other phi h) h time refl (rw away refl) (λ since. refl) (λ since. refl)

-- a pulse makes one under control 1
pub request-pulsed : (first chip : ℕ) (h : History) (time : ℕ) → since_of first chip h < time →
    has_request first chip (after_pulse chip time h) time ≡ (has_request first chip h time || (latch_of (control_port first) h.writes % 4 == 1))
request-pulsed first chip h time later =
    let control = latch_of (control_port first) h.writes in
    let since = since_of first chip h in
    let expired = has_expiry (timer_port first) since time h.writes in
    ap (λ (b : Bool). request_by control expired b) (comes (chip == chip) since time (has_mark chip since time h.pulses) (eq-eqb chip chip refl) later)
    ∙ request_by-pulsed control expired (has_mark chip since time h.pulses)
  where
    comes : (here : Bool) (since time : ℕ) (rest : Bool) → here ≡ true → since < time →
        ((here && nat_lt since time && nat_le time time) || rest) ≡ true
    comes here since time rest e later = grind (nat_tests, arith)

pub request-unpulsed : (first chip other phi : ℕ) (h : History) (time : ℕ) → (other ≡ chip → ⊥) →
    has_request first chip (after_pulse other phi h) time ≡ has_request first chip h time
request-unpulsed first chip other phi h time apart =
    let away = ne_eqb other chip apart in
    request-same first chip (after_pulse other phi h) h time refl refl (λ since. refl) (λ since. rw away refl)
