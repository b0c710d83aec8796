-- Power, key bytes, a write to a port of the processor's own and pulses keep the requests of a rack together with the history of the run.
use Rattle.std.proofs.Common.{◌≡◌, ℕ, ◌+◌, ◌%◌, ◌<◌, ◌≤◌, Bool, true, false, List, [], map, refl, sym, ap, ◌∙◌, subst, arith}
use Rattle.std.proofs.Common.{eqb-true, eq-eqb}
use Rattle.std.specs.Prelude.{◌==◌, if◌then◌else◌, Option, Some, None, option_map, option_and_then, is_some, slice_get}
use Rattle.std.proofs.lemmas.Bool.{le-leb, lt-ltb}
use Rattle.std.proofs.lemmas.Option.{slice_get-map}
use Rattle.f8_spec.specs.BusArbitration.{seat_of, seat_has_port}
use Rattle.f8_spec.specs.ChipState.{ChipView, ChipState, data_port, has_fixed_vector, keyed_at, keyed, powered, pulsed, admits_pulses}
use Rattle.f8_spec.specs.ChipState.{offset_from, role_at}
use Rattle.f8_spec.specs.declared.chips.ChipKind.{ChipKind}
use Rattle.f8_spec.specs.declared.chips.ChipKind.TheVariants.{Psu, Smi, Pio}
use Rattle.console_spec.specs.InterruptRequests.{History, no_history, time_of, since_of, control_port}
use Rattle.console_spec.specs.InterruptRequests.{timer_port, request_by, has_expiry, has_mark}
use Rattle.console_spec.specs.Writes.{latch_of, takers}
use Rattle.console_spec.specs.declared.PortWrite.{PortWrite}
use Rattle.console_spec.proofs.RequestLaws.{past-written, past-pulsed, after_write, after_pulse}
use Rattle.data_bus.specs.Racks.{views}
use Rattle.data_bus.proofs.Zipped.{Paired, paired, zip_alike}
use Rattle.f8_machine.specs.Requests.{Device, IsDevice, device_of}
use Rattle.f8_machine.specs.RequestsHeld.{IsIdle, HasVector, HasRequests, HoldRequests, IsInTime}
use Rattle.f8_machine.specs.RequestsHeld.{PulsesIf, PulsesInSocket, RackPulses}
use Rattle.f8_machine.proofs.Acknowledging.{unasked}
use Rattle.f8_machine.proofs.DeviceLaws.{device_of-pulsed, device_idle, device_pulse, device_unpulsed}
use Rattle.f8_machine.proofs.FirstViews.{powered_views, powered_comes}
use Rattle.f8_machine.proofs.Kept.{Comes, comes}
use Rattle.f8_machine.proofs.PortSteps.{counts_one}
use Rattle.f8_machine.proofs.RequestSteps.{vector_same, requesting_same, idle_same, requests_by, written_apart}

-- ---- power-on

-- nothing is written, and a written vector is 0
powered_vector : (kind : ChipKind) (first : ℕ) (v : ChipView) → v.kind ≡ kind →
    HasVector (has_fixed_vector kind) first [] (record v { vector = if has_fixed_vector kind then v.vector else 0 })
powered_vector Psu first v same = tt
powered_vector Smi first v same = record { halves = refl; low = omega arith }
powered_vector Pio first v same = tt

powered_requests : (ports : Option ℕ) (fill start socket : ℕ) (v : ChipView) → HasRequests ports socket no_history 0 (powered fill start v)
powered_requests None fill start socket v = record { control_byte = refl; silent = refl }
powered_requests (Some first) fill start socket v = record {
  device = device_idle first socket 0;
  vector = vector_same (has_fixed_vector v.kind) first [] (record v { vector = if has_fixed_vector v.kind then v.vector else 0 })
      (powered fill start v) refl (powered_vector v.kind first v refl);
}

pub in_time_powered : (fill start : ℕ → ℕ) (vs : List ChipView) → IsInTime 0 no_history (powered_views fill start vs)
in_time_powered fill start vs = record { past = record { writes = tt; acknowledged = tt; pulses = tt }; requests = at }
  where
    at : HoldRequests 0 no_history (powered_views fill start vs)
    at socket w lies =
        let old : Comes (powered (fill socket) (start socket)) (slice_get vs socket) w = powered_comes fill start vs socket w lies in
        subst (λ (u : ChipView). HasRequests u.ports socket no_history 0 u) (sym old.gives)
        (powered_requests old.from.ports (fill socket) (start socket) socket old.from)

-- ---- a key byte

-- it leaves what the history tells
record LeavesHeld (old new : ChipView) : Type 0 where
  device : device_of new ≡ device_of old
  vector : new.vector ≡ old.vector
  kind : new.kind ≡ old.kind
  ports : new.ports ≡ old.ports

keyed_held : (place : Option ℕ) (byte : ℕ) (v : ChipView) → LeavesHeld v (keyed_at place byte v)
keyed_held None byte v = record { device = refl; vector = refl; kind = refl; ports = refl }
keyed_held (Some place) byte v = record { device = refl; vector = refl; kind = refl; ports = refl }

held_requests : (ports : Option ℕ) (socket time : ℕ) (h : History) (v w : ChipView) → LeavesHeld v w → HasRequests ports socket h time v →
    HasRequests ports socket h time w
held_requests None socket time h v w left is = idle_same v w left.device is
held_requests (Some first) socket time h v w left is = requesting_same first socket time h v w left.device left.vector left.kind is

pub in_time_keyed : (port byte time : ℕ) (h : History) (vs : List ChipView) → IsInTime time h vs → IsInTime time h (map (keyed port byte) vs)
in_time_keyed port byte time h vs is = record {
  past = is.past;
  requests = requests_by (keyed port byte) vs time time h h (λ v. (keyed_held (data_port v port) byte v).ports)
      (λ socket v lies has. held_requests v.ports socket time h v (keyed port byte v) (keyed_held (data_port v port) byte v) has) is.requests;
}

-- ---- a write to a port that no chip has

-- a chip has each of its four ports
has_own : (kind : ChipKind) (first n : ℕ) → n < 4 → is_some (option_map (role_at kind) (offset_from (first + n) first)) ≡ true
has_own kind first n few = rw (le-leb first (first + n) (omega arith), lt-ltb (first + n) (first + 4) (omega arith)) refl

elsewhere : (w : PortWrite) (vs : List ChipView) (socket first n : ℕ) (v : ChipView) → takers w.port (map seat_of vs) ≡ 0 →
    slice_get vs socket ≡ Some v → v.ports ≡ Some first → n < 4 → w.port ≡ first + n → ⊥
elsewhere w vs socket first n v none lies ports few same =
    let has : seat_has_port (seat_of v) w.port ≡ true =
    ap (λ (p : Option ℕ). is_some (option_map (role_at v.kind) (option_and_then (offset_from w.port) p))) ports
    ∙ ap (λ (port : ℕ). is_some (option_map (role_at v.kind) (offset_from port first))) same ∙ has_own v.kind first n few in
    let some = counts_one (λ s. seat_has_port s w.port) vs socket v lies has in
    omega (arith, some, none)

pub in_time_elsewhere : (w : PortWrite) (time : ℕ) (h : History) (vs : List ChipView) → takers w.port (map seat_of vs) ≡ 0 → time_of w ≤ time →
    IsInTime time h vs → IsInTime time (after_write w h) vs
in_time_elsewhere w time h vs none order is = record {
  past = past-written w time h order is.past;
  requests = λ socket v lies. by socket v v.ports refl (is.requests socket v lies) lies;
}
  where
    by : (socket : ℕ) (v : ChipView) (ports : Option ℕ) → v.ports ≡ ports → HasRequests ports socket h time v → slice_get vs socket ≡ Some v →
        HasRequests ports socket (after_write w h) time v
    by socket v None ports has lies = has
    by socket v (Some first) ports has lies = written_apart first socket time w h v
        (λ n few same. elsewhere w vs socket first n v none lies ports few same) has

-- ---- a pulse

-- under another control than 1 it is lost
unlet : (control : ℕ) (expired before after : Bool) → (control % 4 == 1) ≡ false → request_by control expired after ≡ request_by control expired before
unlet control expired before after other = rw other (by (control % 4 == 3))
  where
    by : (timer : Bool) → (if timer then expired else false) ≡ (if timer then expired else false)
    by timer = refl

device_unlet : (first socket time : ℕ) (h : History) (d : Device) → (d.control % 4 == 1) ≡ false → IsDevice first socket h time d →
    IsDevice first socket (after_pulse socket time h) time d
device_unlet first socket time h d other is =
    let control : ℕ = latch_of (control_port first) h.writes in
    let since : ℕ = since_of first socket h in
    let expired : Bool = has_expiry (timer_port first) since time h.writes in
    let closed : (control % 4 == 1) ≡ false = ap (λ (c : ℕ). c % 4 == 1) (sym is.control_byte) ∙ other in
    record {
      control_byte = is.control_byte;
      asks = is.asks ∙ sym (unlet control expired (has_mark socket since time h.pulses)
          (has_mark socket since time (after_pulse socket time h).pulses) closed);
      timed = is.timed;
    }

-- a pulse leaves all else
pulsed_vector : (lets_in : Bool) (v : ChipView) → (if lets_in then record v { request = true } else v).vector ≡ v.vector
pulsed_vector true v = refl
pulsed_vector false v = refl

pulsed_kind : (lets_in : Bool) (v : ChipView) → (if lets_in then record v { request = true } else v).kind ≡ v.kind
pulsed_kind true v = refl
pulsed_kind false v = refl

pulsed_ports : (lets_in : Bool) (v : ChipView) → (if lets_in then record v { request = true } else v).ports ≡ v.ports
pulsed_ports true v = refl
pulsed_ports false v = refl

-- the chip that has it
pulsed_device : (lets_in : Bool) (first socket time : ℕ) (h : History) (v : ChipView) → admits_pulses v.control ≡ lets_in →
    (lets_in ≡ true → since_of first socket h < time) → IsDevice first socket h time (device_of v) →
    IsDevice first socket (after_pulse socket time h) time (device_of (if lets_in then record v { request = true } else v))
pulsed_device true first socket time h v lets later is =
    subst (IsDevice first socket (after_pulse socket time h) time)
    (sym (ap (λ (b : Bool). device_of (if b then record v { request = true } else v)) (sym lets) ∙ device_of-pulsed v))
    (device_pulse first socket time h (device_of v) (later refl) is)
pulsed_device false first socket time h v lets later is = device_unlet first socket time h (device_of v) lets is

pulsed_requests : (ports : Option ℕ) (socket time : ℕ) (h : History) (v : ChipView) →
    ((first : ℕ) → ports ≡ Some first → admits_pulses v.control ≡ true → since_of first socket h < time) → HasRequests ports socket h time v →
    HasRequests ports socket (after_pulse socket time h) time (pulsed v)
pulsed_requests None socket time h v later is =
    let closed : admits_pulses v.control ≡ false = ap (λ (c : ℕ). c % 4 == 1) is.control_byte in
    subst (λ (b : Bool). IsIdle (if b then record v { request = true } else v)) (sym closed) is
pulsed_requests (Some first) socket time h v later is = record {
  device = pulsed_device (admits_pulses v.control) first socket time h v refl (later first refl) is.device;
  vector = subst (λ (k : ChipKind). HasVector (has_fixed_vector k) first h.writes (pulsed v)) (sym (pulsed_kind (admits_pulses v.control) v))
      (vector_same (has_fixed_vector v.kind) first h.writes v (pulsed v) (pulsed_vector (admits_pulses v.control) v) is.vector);
}

-- and the others
unpulsed_requests : (ports : Option ℕ) (chosen socket time : ℕ) (h : History) (v : ChipView) → (chosen ≡ socket → ⊥) → HasRequests ports socket h time v →
    HasRequests ports socket (after_pulse chosen time h) time v
unpulsed_requests None chosen socket time h v apart is = is
unpulsed_requests (Some first) chosen socket time h v apart is = record {
  device = device_unpulsed first socket chosen time time h (device_of v) apart is.device;
  vector = is.vector;
}

-- the chip in a socket after a pulse at the chosen one
pulse_seated : (marked : Bool) (chosen socket time : ℕ) (h : History) (old new : ChipState) → (chosen == socket) ≡ marked →
    ((first : ℕ) → socket ≡ chosen → old.view.ports ≡ Some first → admits_pulses old.view.control ≡ true → since_of first chosen h < time) →
    PulsesIf marked old new → HasRequests old.view.ports socket h time old.view →
    HasRequests new.view.ports socket (after_pulse chosen time h) time new.view
pulse_seated true chosen socket time h old new mark later pulse is =
    let same : socket ≡ chosen = sym (eqb-true chosen socket mark) in
    let v : ChipView = old.view in
    let done : HasRequests v.ports socket (after_pulse socket time h) time (pulsed v) =
    pulsed_requests v.ports socket time h v (λ first ports lets. subst (λ (k : ℕ). since_of first k h < time) (sym same)
    (later first same ports lets)) is in
    subst (λ (k : ℕ). HasRequests new.view.ports socket (after_pulse k time h) time new.view) same
    (subst (λ (u : ChipView). HasRequests u.ports socket (after_pulse socket time h) time u) (sym pulse.view)
    (subst (λ (p : Option ℕ). HasRequests p socket (after_pulse socket time h) time (pulsed v)) (sym (pulsed_ports (admits_pulses v.control) v)) done))
pulse_seated false chosen socket time h old new mark later pulse is =
    subst (λ (s : ChipState). HasRequests s.view.ports socket (after_pulse chosen time h) time s.view) (sym pulse)
    (unpulsed_requests old.view.ports chosen socket time h old.view
    (λ same. (let yes : (chosen == socket) ≡ true = eq-eqb chosen socket same in cc)) is)

-- nothing changes but the request
pulse_leaves : (marked : Bool) (old new : ChipState) → PulsesIf marked old new → unasked new.view ≡ unasked old.view
pulse_leaves true old new pulse = ap unasked pulse.view ∙ by (admits_pulses old.view.control)
  where
    by : (lets_in : Bool) → unasked (if lets_in then record old.view { request = true } else old.view) ≡ unasked old.view
    by true = refl
    by false = refl
pulse_leaves false old new pulse = ap (λ (s : ChipState). unasked s.view) pulse

pub views_pulsed : (chosen : ℕ) (olds news : List ChipState) → RackPulses chosen olds news → map unasked (views news) ≡ map unasked (views olds)
views_pulsed chosen olds news all =
    zip_alike (PulsesInSocket chosen) (λ (s : ChipState). s.view) (λ (s : ChipState). s.view) unasked unasked
    (λ k old new one. pulse_leaves (chosen == k) old new one) 0 olds news all

-- A pulse at the chip in a socket. Where control lets it in, it comes after the last control write and acknowledgement of that chip.
pub in_time_pulsed : (chosen time : ℕ) (h : History) (olds news : List ChipState) →
    ((v : ChipView) (first : ℕ) → slice_get (views olds) chosen ≡ Some v → v.ports ≡ Some first → admits_pulses v.control ≡ true →
    since_of first chosen h < time) →
    RackPulses chosen olds news → IsInTime time h (views olds) → IsInTime time (after_pulse chosen time h) (views news)
in_time_pulsed chosen time h olds news later all is =
    record { past = past-pulsed chosen time time h (omega arith) is.past; requests = at }
  where
    at : HoldRequests time (after_pulse chosen time h) (views news)
    at socket w lies =
        let new : Comes (λ (s : ChipState). s.view) (slice_get news socket) w =
        comes (λ (s : ChipState). s.view) (slice_get news socket) w (sym (slice_get-map (λ (s : ChipState). s.view) news socket) ∙ lies) in
        let pair : Paired (PulsesInSocket chosen) olds socket socket new.from =
        paired (PulsesInSocket chosen) 0 socket socket olds news new.from (omega arith) all new.is in
        let v : ChipView = pair.from.view in
        let lies_before : slice_get (views olds) socket ≡ Some v =
        slice_get-map (λ (s : ChipState). s.view) olds socket ∙ ap (option_map (λ (s : ChipState). s.view)) pair.is in
        subst (λ (u : ChipView). HasRequests u.ports socket (after_pulse chosen time h) time u) (sym new.gives)
        (pulse_seated (chosen == socket) chosen socket time h pair.from new.from refl
        (λ first same ports lets. later v first (subst (λ (k : ℕ). slice_get (views olds) k ≡ Some v) same lies_before) ports lets)
        pair.related (is.requests socket v lies_before))
