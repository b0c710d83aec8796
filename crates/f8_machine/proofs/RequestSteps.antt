-- A bus step keeps the timers, the requests and the written vectors of the chips of a rack together with the history of the run.
use Rattle.std.proofs.Common.{◌≡◌, ℕ, ◌+◌, ◌-◌, ◌<◌, ◌≤◌, Bool, true, false, List, ◌∷◌, map, refl, sym, ap}
use Rattle.std.proofs.Common.{◌∙◌, subst, arith, eqb-true, eq-eqb}
use Rattle.std.specs.Prelude.{◌==◌, ◌&&◌, nat_le, nat_lt, if◌then◌else◌, Option, Some, None, option_map, option_and_then}
use Rattle.std.specs.Prelude.{is_some, slice_get}
use Rattle.std.specs.List.{enumerate_from}
use Rattle.std.proofs.lemmas.Bool.{leb-true, ltb-true, le-leb, lt-ltb, ne_eqb}
use Rattle.std.proofs.lemmas.Option.{slice_get-map}
use Rattle.f8_spec.specs.BusCodes.{Count}
use Rattle.f8_spec.specs.ShiftTimer.{step_period}
use Rattle.f8_spec.specs.ChipState.{ChipView, PortRole, DataPort, VectorHigh, VectorLow, ControlPort, TimerPort}
use Rattle.f8_spec.specs.ChipState.{has_ram_at, bytes_with, stored, has_data_ports, has_fixed_vector}
use Rattle.f8_spec.specs.ChipState.{port_role, role_at, offset_from, port_written, port_written_if, effect, after_step, timer_passed}
use Rattle.f8_spec.specs.BusArbitration.{Seat, Served, seat_of, seat_has_port, view_ruling}
use Rattle.f8_spec.specs.declared.chips.ChipKind.{ChipKind}
use Rattle.f8_spec.specs.declared.chips.ChipKind.TheVariants.{Psu, Smi, Pio}
use Rattle.console_spec.specs.Processor.{Flow, if_taken, write_at, with_write}
use Rattle.console_spec.specs.CounterCopies.{Copy}
use Rattle.console_spec.specs.InterruptRequests.{History, IsPast, time_of, control_port, timer_port}
use Rattle.console_spec.specs.Writes.{takers}
use Rattle.console_spec.specs.declared.PortWrite.{PortWrite}
use Rattle.console_spec.specs.Run.{seats_of}
use Rattle.console_spec.proofs.RequestLaws.{past-later, past-written, after_write}
use Rattle.f8_machine.specs.RackViews.{AreCopies}
use Rattle.f8_machine.specs.Requests.{Device, IsDevice, device_of}
use Rattle.f8_machine.specs.RequestsHeld.{IsIdle, HasVector, IsRequesting, HasRequests, HoldRequests, IsInTime}
use Rattle.f8_machine.proofs.Copies.{seats_same, all_heard}
use Rattle.f8_machine.proofs.DeviceLaws.{device_more, device_control, device_loaded_timer, device_apart}
use Rattle.f8_machine.proofs.Kept.{Comes, comes}
use Rattle.f8_machine.proofs.PortSteps.{one_takes}
use Rattle.f8_machine.proofs.PortValues.{writes_by}
use Rattle.f8_machine.proofs.Slots.{plain_step, seat_of-after}

-- ---- the ports of one chip

-- where a role stands behind the chip's first port
abbrev IsRole : ChipKind → ℕ → ℕ → PortRole → Type 0
IsRole kind first port ControlPort = port ≡ control_port first
IsRole kind first port TimerPort = port ≡ timer_port first
IsRole kind first port (DataPort place) =
    (has_fixed_vector kind ≡ true) × (port ≡ control_port first → ⊥) × (port ≡ timer_port first → ⊥)
IsRole kind first port VectorHigh = port ≡ first
IsRole kind first port VectorLow = port ≡ first + 1

data_fixed : (kind : ChipKind) → has_data_ports kind ≡ true → has_fixed_vector kind ≡ true
data_fixed Psu e = refl
data_fixed Smi e = cc
data_fixed Pio e = refl

role_stands : (kind : ChipKind) (first port : ℕ) (role : PortRole) →
    option_map (role_at kind) (offset_from port first) ≡ Some role → IsRole kind first port role
role_stands kind first port role e = by (nat_le first port) (nat_lt port (first + 4)) refl refl e
  where
    at : (offset : ℕ) → port ≡ first + offset → offset < 4 → (third fourth data_ports high : Bool) →
        (offset == 2) ≡ third → (offset == 3) ≡ fourth → has_data_ports kind ≡ data_ports → (offset == 0) ≡ high →
        IsRole kind first port (if third then ControlPort else if fourth then TimerPort else
        if data_ports then DataPort offset else if high then VectorHigh else VectorLow)
    at offset stands few true fourth data_ports high e2 e3 ed e0 =
        let two : offset ≡ 2 = eqb-true offset 2 e2 in omega (arith, stands, two)
    at offset stands few false true data_ports high e2 e3 ed e0 =
        let three : offset ≡ 3 = eqb-true offset 3 e3 in omega (arith, stands, three)
    at offset stands few false false true high e2 e3 ed e0 = (
      data_fixed kind ed,
      λ same. (let yes : (offset == 2) ≡ true = eq-eqb offset 2 (omega (arith, same, stands)) in cc),
      λ same. (let yes : (offset == 3) ≡ true = eq-eqb offset 3 (omega (arith, same, stands)) in cc),
    )
    at offset stands few false false false true e2 e3 ed e0 =
        let none : offset ≡ 0 = eqb-true offset 0 e0 in omega (arith, stands, none)
    at offset stands few false false false false e2 e3 ed e0 =
        let no_zero : offset ≡ 0 → ⊥ = λ same. (let yes : (offset == 0) ≡ true = eq-eqb offset 0 same in cc) in
        let no_two : offset ≡ 2 → ⊥ = λ same. (let yes : (offset == 2) ≡ true = eq-eqb offset 2 same in cc) in
        let no_three : offset ≡ 3 → ⊥ = λ same. (let yes : (offset == 3) ≡ true = eq-eqb offset 3 same in cc) in
        omega (arith, stands, few)

    by : (above below : Bool) → nat_le first port ≡ above → nat_lt port (first + 4) ≡ below →
        option_map (role_at kind) (if above && below then Some (port - first) else None) ≡ Some role →
        IsRole kind first port role
    by false below is under e = cc
    by true false is under e = cc
    by true true is under e =
        let least : first ≤ port = leb-true first port is in
        let most : port < first + 4 = ltb-true port (first + 4) under in
        let same : role_at kind (port - first) ≡ role = cc in
        subst (IsRole kind first port) same (at (port - first) (omega arith) (omega arith)
        (port - first == 2) (port - first == 3) (has_data_ports kind) (port - first == 0) refl refl refl refl)

-- a port that a chip doesn't have is none of its four
no_role : (kind : ChipKind) (first port n : ℕ) → n < 4 → option_map (role_at kind) (offset_from port first) ≡ None →
    port ≡ first + n → ⊥
no_role kind first port n few e same =
    by (nat_le first port) (nat_lt port (first + 4)) (le-leb first port (omega arith)) (lt-ltb port (first + 4) (omega arith)) e
  where
    by : (above below : Bool) → above ≡ true → below ≡ true →
        option_map (role_at kind) (if above && below then Some (port - first) else None) ≡ None → ⊥
    by false below is under e = cc
    by true false is under e = cc
    by true true is under e = cc

-- ---- the written vector of one chip

vector_apart : (fixed : Bool) (first : ℕ) (w : PortWrite) (ws : List PortWrite) (v : ChipView) → (w.port ≡ first → ⊥) →
    (w.port ≡ first + 1 → ⊥) → HasVector fixed first ws v → HasVector fixed first (w ∷ ws) v
vector_apart true first w ws v no_high no_low has = tt
vector_apart false first w ws v no_high no_low has = record {
  halves = rw (ne_eqb w.port first no_high, ne_eqb w.port (first + 1) no_low) has.halves;
  low = rw (ne_eqb w.port (first + 1) no_low) has.low;
}

vector_high : (fixed : Bool) (first : ℕ) (w : PortWrite) (ws : List PortWrite) (v : ChipView) → w.port ≡ first →
    HasVector fixed first ws v → HasVector fixed first (w ∷ ws) (port_written VectorHigh w.byte v)
vector_high true first w ws v port has = tt
vector_high false first w ws v port has =
    let low = has.low in
    let is = has.halves in
    let other = ne_eqb w.port (first + 1) (λ same. omega (arith, same, port)) in
    record {
      halves = rw (eq-eqb w.port first port, other) (omega (arith, low, is));
      low = rw other low;
    }

vector_low : (fixed : Bool) (first : ℕ) (w : PortWrite) (ws : List PortWrite) (v : ChipView) → w.port ≡ first + 1 → w.byte < 256 →
    HasVector fixed first ws v → HasVector fixed first (w ∷ ws) (port_written VectorLow w.byte v)
vector_low true first w ws v port small has = tt
vector_low false first w ws v port small has =
    let low = has.low in
    let is = has.halves in
    let here = eq-eqb w.port (first + 1) port in
    record {
      halves = rw (here, ne_eqb w.port first (λ same. omega (arith, same, port))) (omega (arith, low, is));
      low = rw here small;
    }

-- ---- one chip, at a port write

-- the vector doesn't read what passing changes
pub vector_same : (fixed : Bool) (first : ℕ) (ws : List PortWrite) (v w : ChipView) → w.vector ≡ v.vector → HasVector fixed first ws v →
    HasVector fixed first ws w
vector_same true first ws v w same has = tt
vector_same false first ws v w same has = record { halves = same ∙ has.halves; low = has.low }

-- to a port of the chip
pub written_here : (role : PortRole) (first socket time : ℕ) (w : PortWrite) (h : History) (v : ChipView) →
    IsRole v.kind first w.port role → time_of w ≡ time → w.byte < 256 → IsPast time h → IsRequesting first socket h time v →
    IsRequesting first socket (after_write w h) time (port_written role w.byte v)
written_here (DataPort place) first socket time w h v stands now small past is = record {
  device = device_apart first socket time w h (device_of v) stands.1 stands.2 is.device;
  vector = rw stands.0 tt;
}
written_here VectorHigh first socket time w h v stands now small past is = record {
  device = device_apart first socket time w h (device_of v) (λ same. omega (arith, same, stands)) (λ same. omega (arith, same, stands)) is.device;
  vector = vector_high (has_fixed_vector v.kind) first w h.writes v stands is.vector;
}
written_here VectorLow first socket time w h v stands now small past is = record {
  device = device_apart first socket time w h (device_of v) (λ same. omega (arith, same, stands)) (λ same. omega (arith, same, stands)) is.device;
  vector = vector_low (has_fixed_vector v.kind) first w h.writes v stands small is.vector;
}
written_here ControlPort first socket time w h v stands now small past is = record {
  device = device_control first socket time w h (device_of v) stands now past is.device;
  vector = vector_same (has_fixed_vector v.kind) first (w ∷ h.writes) v (port_written ControlPort w.byte v) refl
      (vector_apart (has_fixed_vector v.kind) first w h.writes v (λ same. omega (arith, same, stands)) (λ same. omega (arith, same, stands)) is.vector);
}
written_here TimerPort first socket time w h v stands now small past is = record {
  device = device_loaded_timer first socket time w h (device_of v) stands now small is.device;
  vector = vector_same (has_fixed_vector v.kind) first (w ∷ h.writes) v (port_written TimerPort w.byte v) refl
      (vector_apart (has_fixed_vector v.kind) first w h.writes v (λ same. omega (arith, same, stands)) (λ same. omega (arith, same, stands)) is.vector);
}

-- to a port that the chip doesn't have
pub written_apart : (first socket time : ℕ) (w : PortWrite) (h : History) (v : ChipView) → ((n : ℕ) → n < 4 → w.port ≡ first + n → ⊥) →
    IsRequesting first socket h time v → IsRequesting first socket (after_write w h) time v
written_apart first socket time w h v apart is = record {
  device = device_apart first socket time w h (device_of v) (apart 2 (omega arith)) (apart 3 (omega arith)) is.device;
  vector = vector_apart (has_fixed_vector v.kind) first w h.writes v (λ same. apart 0 (omega arith) (omega (arith, same)))
      (apart 1 (omega arith)) is.vector;
}

-- ---- one chip, in a step

-- every code but a port write leaves what the history tells
record LeavesRequests (old new : ChipView) : Type 0 where
  device : device_of new ≡ device_of old
  vector : new.vector ≡ old.vector

effect_leaves : (romc byte : ℕ) (v : ChipView) → (romc == 0x1A) ≡ false → LeavesRequests v (effect romc byte false v)
effect_leaves romc byte v other = rw other (by (romc == 0x05) (romc == 0x13))
  where
    stored_leaves : (ram : Bool) → LeavesRequests v
        (if ram then record v { bytes = bytes_with v.pages v.bytes v.counters.dc0 byte } else v)
    stored_leaves true = record { device = refl; vector = refl }
    stored_leaves false = record { device = refl; vector = refl }

    by : (store ends : Bool) → LeavesRequests v
        (if store then stored v.counters.dc0 byte v else if ends then record v { request = v.request } else v)
    by true ends = stored_leaves (has_ram_at v v.counters.dc0)
    by false true = record { device = refl; vector = refl }
    by false false = record { device = refl; vector = refl }

-- what leaves device and vector leaves the relation
pub requesting_same : (first socket time : ℕ) (h : History) (v w : ChipView) → device_of w ≡ device_of v → w.vector ≡ v.vector →
    w.kind ≡ v.kind → IsRequesting first socket h time v → IsRequesting first socket h time w
requesting_same first socket time h v w device vector kind is = record {
  device = subst (IsDevice first socket h time) (sym device) is.device;
  vector = subst (λ (k : ChipKind). HasVector (has_fixed_vector k) first h.writes w) (sym kind)
      (vector_same (has_fixed_vector v.kind) first h.writes v w vector is.vector);
}

-- time
passed : (first socket clocks time : ℕ) (h : History) (v : ChipView) → clocks < step_period → IsPast time h →
    IsRequesting first socket h time v → IsRequesting first socket h (time + clocks) (timer_passed clocks v)
passed first socket clocks time h v few past is = record {
  device = device_more first socket clocks time h (device_of v) few past is.device;
  vector = vector_same (has_fixed_vector v.kind) first h.writes v (timer_passed clocks v) refl is.vector;
}

-- a blank chip
idle_passed : (clocks : ℕ) (v : ChipView) → IsIdle v → IsIdle (timer_passed clocks v)
idle_passed clocks v is = record { control_byte = is.control_byte; silent = rw (is.silent, is.control_byte) refl }

pub idle_same : (v w : ChipView) → device_of w ≡ device_of v → IsIdle v → IsIdle w
idle_same v w device is = record {
  control_byte = ap (λ (d : Device). d.control) device ∙ is.control_byte;
  silent = ap (λ (d : Device). d.request) device ∙ is.silent;
}

stepped : (romc byte clocks socket time : ℕ) (h : History) (v : ChipView) (ports : Option ℕ) → (romc == 0x1A) ≡ false →
    clocks < step_period → IsPast time h → HasRequests ports socket h time v →
    HasRequests ports socket h (time + clocks) (after_step (plain_step romc byte clocks) v)
stepped romc byte clocks socket time h v None other few past is =
    let timed : ChipView = timer_passed clocks v in
    idle_same timed (after_step (plain_step romc byte clocks) v) (effect_leaves romc byte timed other).device
    (idle_passed clocks v is)
stepped romc byte clocks socket time h v (Some first) other few past is =
    let timed : ChipView = timer_passed clocks v in
    let left : LeavesRequests timed (effect romc byte false timed) = effect_leaves romc byte timed other in
    requesting_same first socket (time + clocks) h timed (after_step (plain_step romc byte clocks) v) left.device left.vector
    (ap (λ (s : Seat). s.kind) (seat_of-after romc byte clocks v)) (passed first socket clocks time h v few past is)

-- ---- a port write on a rack

-- by whether the port took the byte
abbrev written : Bool → ℕ → ℕ → ℕ → History → History
written taken phi last byte h =
    record h { writes = with_write (write_at phi byte (if taken then Some last else None)) h.writes }

past_written : (taken : Bool) (phi last byte time : ℕ) (h : History) → phi ≡ time + 4 → IsPast time h → IsPast time (written taken phi last byte h)
past_written true phi last byte time h ends past =
    past-written (record { phi = phi; port = last; byte = byte }) time h (omega (arith, ends)) past
past_written false phi last byte time h ends past = past

module _ (byte clocks phi last : ℕ) (vs : List ChipView) (heard : (k : ℕ) (v : ChipView) → slice_get vs k ≡ Some v →
    v.last ≡ last) (socket : Option ℕ) (reference : ℕ)
    (served : view_ruling 0x1A None reference (enumerate_from 0 vs) ≡ Served socket) (time : ℕ) (h : History)
    (few : clocks < step_period) (small : byte < 256) (ends : phi ≡ time + clocks + 4) (past : IsPast time h) where
  -- the chip after the step, by the role of the port at it
  put : (k first : ℕ) (v : ChipView) (role : Option PortRole) (taken : Bool) → slice_get vs k ≡ Some v → v.ports ≡ Some first →
      port_role v v.last ≡ role → (takers last (map seat_of vs) == 1) ≡ taken → IsRequesting first k h time v →
      IsRequesting first k (written taken phi last byte h) (time + clocks)
      (port_written_if role byte (timer_passed clocks v))
  put k first v None true lies ports at is_taken is =
      let none : option_map (role_at v.kind) (offset_from last first) ≡ None =
      sym (ap (λ (p : Option ℕ). option_map (role_at v.kind) (option_and_then (offset_from last) p)) ports)
      ∙ ap (port_role v) (sym (heard k v lies)) ∙ at in
      written_apart first k (time + clocks) (record { phi = phi; port = last; byte = byte }) h (timer_passed clocks v)
      (λ n four same. no_role v.kind first last n four none same) (passed first k clocks time h v few past is)
  put k first v None false lies ports at is_taken is = passed first k clocks time h v few past is
  put k first v (Some role) true lies ports at is_taken is =
      let some : option_map (role_at v.kind) (offset_from last first) ≡ Some role =
      sym (ap (λ (p : Option ℕ). option_map (role_at v.kind) (option_and_then (offset_from last) p)) ports)
      ∙ ap (port_role v) (sym (heard k v lies)) ∙ at in
      written_here role first k (time + clocks) (record { phi = phi; port = last; byte = byte }) h (timer_passed clocks v)
      (role_stands v.kind first last role some) (omega (arith, ends)) small
      (past-later time (time + clocks) h (omega arith) past) (passed first k clocks time h v few past is)
  put k first v (Some role) false lies ports at is_taken is =
      let has : seat_has_port (seat_of v) last ≡ true =
      ap (λ (p : ℕ). is_some (port_role v p)) (sym (heard k v lies)) ∙ ap is_some at in
      let one : (takers last (map seat_of vs) == 1) ≡ true =
      one_takes byte clocks phi last vs heard socket reference served k v lies has in
      let never : true ≡ false = sym one ∙ is_taken in cc

  put_by : (k : ℕ) (v : ChipView) (ports : Option ℕ) → slice_get vs k ≡ Some v → v.ports ≡ ports → HasRequests ports k h time v →
      HasRequests ports k (written (takers last (map seat_of vs) == 1) phi last byte h) (time + clocks)
      (after_step (plain_step 0x1A byte clocks) v)
  put_by k v None lies ports is =
      let timed : ChipView = timer_passed clocks v in
      let none : port_role v v.last ≡ None =
      ap (λ (p : Option ℕ). option_map (role_at v.kind) (option_and_then (offset_from v.last) p)) ports in
      idle_same timed (after_step (plain_step 0x1A byte clocks) v)
      (ap (λ (r : Option PortRole). device_of (port_written_if r byte timed)) none) (idle_passed clocks v is)
  put_by k v (Some first) lies ports is =
      requesting_same first k (time + clocks) (written (takers last (map seat_of vs) == 1) phi last byte h)
      (port_written_if (port_role v v.last) byte (timer_passed clocks v)) (after_step (plain_step 0x1A byte clocks) v)
      refl refl refl
      (put k first v (port_role v v.last) (takers last (map seat_of vs) == 1) lies ports refl refl is)

-- ---- a rack

-- a change of each chip by its socket, over which a chip's ports stay
pub requests_by : (f : ChipView → ChipView) (vs : List ChipView) (time later : ℕ) (h k : History) → ((v : ChipView) → (f v).ports ≡ v.ports) →
    ((socket : ℕ) (v : ChipView) → slice_get vs socket ≡ Some v → HasRequests v.ports socket h time v →
    HasRequests v.ports socket k later (f v)) →
    HoldRequests time h vs → HoldRequests later k (map f vs)
requests_by f vs time later h k ports goes holds socket w lies =
    let old : Comes f (slice_get vs socket) w = comes f (slice_get vs socket) w (sym (slice_get-map f vs socket) ∙ lies) in
    subst (λ (u : ChipView). HasRequests u.ports socket k later u) (sym old.gives)
    (subst (λ (p : Option ℕ). HasRequests p socket k later (f old.from)) (sym (ports old.from))
    (goes socket old.from old.is (holds socket old.from old.is)))

-- A served step, of which no interrupt is acknowledged. The write of a port stands 4 Φ behind its step.
pub in_time_more : (romc byte clocks time phi reference : ℕ) (now : Bool → Flow → Count) (last : ℕ) (socket : Option ℕ)
    (cs : List Copy) (vs : List ChipView) (h : History) → clocks < step_period → (romc ≡ 0x1A → byte < 256) → (romc ≡ 0x1A → phi ≡ time + clocks + 4) →
    AreCopies now last cs vs → view_ruling romc None reference (enumerate_from 0 vs) ≡ Served socket →
    IsInTime time h vs →
    IsInTime (time + clocks) (record h { writes = writes_by romc (seats_of cs) phi last byte h.writes })
    (map (after_step (plain_step romc byte clocks)) vs)
in_time_more romc byte clocks time phi reference now last socket cs vs h few small ends copies served is =
    by (romc == 0x1A) refl
  where
    by : (put : Bool) → (romc == 0x1A) ≡ put → IsInTime (time + clocks) (record h {
      writes = if put then with_write (write_at phi byte (if_taken last (seats_of cs))) h.writes else h.writes;
    }) (map (after_step (plain_step romc byte clocks)) vs)
    by true code =
        let same : romc ≡ 0x1A = eqb-true romc 0x1A code in
        let there : view_ruling 0x1A None reference (enumerate_from 0 vs) ≡ Served socket =
        subst (λ (k : ℕ). view_ruling k None reference (enumerate_from 0 vs) ≡ Served socket) same served in
        let heard = all_heard now last cs vs copies in
        let done : HoldRequests (time + clocks) (written (takers last (map seat_of vs) == 1) phi last byte h)
        (map (after_step (plain_step 0x1A byte clocks)) vs) =
        requests_by (after_step (plain_step 0x1A byte clocks)) vs time (time + clocks) h _
        (λ v. ap (λ (s : Seat). s.ports) (seat_of-after 0x1A byte clocks v))
        (λ k v lies has. put_by byte clocks phi last vs heard socket reference there time h few (small same) (ends same) is.past
        k v v.ports lies refl has) is.requests in
        let seated = subst (λ (ss : List Seat). IsInTime (time + clocks) (written (takers last ss == 1) phi last byte h)
        (map (after_step (plain_step 0x1A byte clocks)) vs)) (seats_same now last cs vs copies) (record {
          past = past_written (takers last (map seat_of vs) == 1) phi last byte (time + clocks) h (ends same)
              (past-later time (time + clocks) h (omega arith) is.past);
          requests = done;
        }) in
        subst (λ (k : ℕ). IsInTime (time + clocks) (written (takers last (seats_of cs) == 1) phi last byte h)
        (map (after_step (plain_step k byte clocks)) vs)) (sym same) seated
    by false other = record {
      past = past-later time (time + clocks) h (omega arith) is.past;
      requests = requests_by (after_step (plain_step romc byte clocks)) vs time (time + clocks) h h
          (λ v. ap (λ (s : Seat). s.ports) (seat_of-after romc byte clocks v))
          (λ k v lies has. stepped romc byte clocks k time h v v.ports other few is.past has) is.requests;
    }
