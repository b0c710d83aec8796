-- What a bus step makes of the ports of the chips: a port write sets the latch of the one chip that has the port, and no other step changes
-- a latch or a key byte.
use Rattle.std.proofs.Common.{◌≡◌, ℕ, zero, suc, ◌+◌, ◌-◌, ◌<◌, ◌≤◌, ◌≢◌, Bool, true, false, cond, List, [], ◌∷◌, map}
use Rattle.std.proofs.Common.{filter, length, refl, sym, ap, ◌∙◌, subst, arith, eqb-true, eq-eqb, length-set}
use Rattle.std.specs.Prelude.{◌==◌, ◌&&◌, nat_le, nat_lt, if◌then◌else◌, Option, Some, None, option_map}
use Rattle.std.specs.Prelude.{option_and_then, is_some, slice_get, slice_index, slice_set}
use Rattle.std.specs.List.{enumerate_from}
use Rattle.std.proofs.lemmas.Bool.{leb-true, ltb-true}
use Rattle.std.proofs.lemmas.List.{get_or-set_same, get_or-set_other}
use Rattle.std.proofs.lemmas.Option.{slice_get-map}
use Rattle.f8_spec.specs.BusCodes.{Count}
use Rattle.f8_spec.specs.ChipState.{ChipView, PortRole, DataPort, VectorHigh, VectorLow, ControlPort, TimerPort}
use Rattle.f8_spec.specs.ChipState.{has_ram_at, bytes_with, stored, has_data_ports, clear_data_ports, data_port}
use Rattle.f8_spec.specs.ChipState.{port_role, role_at, offset_from, latch_place, port_written_if, effect, after_step, timer_passed}
use Rattle.f8_spec.specs.BusArbitration.{Seat, Served, seat_of, seat_has_port, seat_has_data_port, parties}
use Rattle.f8_spec.specs.BusArbitration.{port_write_ruling, view_ruling}
use Rattle.f8_spec.specs.declared.bus.BusRule.TheVariants.{PortWrite as WriteRule}
use Rattle.f8_spec.specs.declared.bus.Party.{Party}
use Rattle.f8_spec.specs.declared.chips.ChipKind.{ChipKind}
use Rattle.f8_spec.specs.declared.chips.ChipKind.TheVariants.{Psu, Smi, Pio}
use Rattle.console_spec.specs.Processor.{Flow, if_taken, write_at, with_write}
use Rattle.console_spec.specs.CounterCopies.{Copy}
use Rattle.console_spec.specs.Writes.{latch_of, takers}
use Rattle.console_spec.specs.declared.PortWrite.{PortWrite}
use Rattle.console_spec.specs.Run.{seats_of}
use Rattle.f8_machine.specs.RackViews.{AreCopies, ReadOnce, IsPort, HoldsPorts}
use Rattle.f8_machine.proofs.Copies.{seats_same, all_heard}
use Rattle.f8_machine.proofs.Kept.{Comes, comes}
use Rattle.f8_machine.proofs.PortReads.{parties_count}
use Rattle.f8_machine.proofs.PortValues.{writes_by}
use Rattle.f8_machine.proofs.ServedSteps.{named_seats}
use Rattle.f8_machine.proofs.Slots.{plain_step, seat_of-after}

-- ---- the ports of a list of chips, one by one

module _ (romc byte clocks : ℕ) (vs : List ChipView) where
  abbrev step : ChipView → ChipView
  step v = after_step (plain_step romc byte clocks) v

  read_once_back : (port place : ℕ) → ReadOnce (map step vs) port place → ReadOnce vs port place
  read_once_back port place once j v lies has =
      once j (step v) (slice_get-map step vs j ∙ ap (option_map step) lies)
      (ap (λ (s : Seat). seat_has_data_port s port) (seat_of-after romc byte clocks v) ∙ has)

  ports_by : (keys : List ℕ) (writes writes_now : List PortWrite) → HoldsPorts keys writes vs →
      ((place : ℕ) (v : ChipView) (port latch : ℕ) → slice_get vs place ≡ Some v → data_port v port ≡ Some latch →
      IsPort keys writes port latch v → IsPort keys writes_now port latch (step v)) →
      HoldsPorts keys writes_now (map step vs)
  ports_by keys writes writes_now holds goes place w port latch lies found once =
      let old : Comes step (slice_get vs place) w =
      comes step (slice_get vs place) w (sym (slice_get-map step vs place) ∙ lies) in
      let data_before : data_port old.from port ≡ Some latch =
      ap (λ (s : Seat). option_and_then latch_place
      (option_map (role_at s.kind) (option_and_then (offset_from port) s.ports)))
      (sym (ap seat_of old.gives ∙ seat_of-after romc byte clocks old.from)) ∙ found in
      subst (λ (v : ChipView). IsPort keys writes_now port latch v) (sym old.gives)
      (goes place old.from port latch old.is data_before
      (holds place old.from port latch old.is data_before (read_once_back port place once)))

-- ---- every code but a port write

pub record LeavesPorts (old new : ChipView) : Type 0 where
  pub latches : new.latches ≡ old.latches
  pub key_bytes : new.key_bytes ≡ old.key_bytes

effect_leaves : (romc byte : ℕ) (v : ChipView) → (romc == 0x1A) ≡ false → LeavesPorts v (effect romc byte false v)
effect_leaves romc byte v other = rw other (by (romc == 0x05) (romc == 0x13))
  where
    stored_leaves : (ram : Bool) → LeavesPorts v
        (if ram then record v { bytes = bytes_with v.pages v.bytes v.counters.dc0 byte } else v)
    stored_leaves true = record { latches = refl; key_bytes = refl }
    stored_leaves false = record { latches = refl; key_bytes = refl }

    by : (store ends : Bool) → LeavesPorts v
        (if store then stored v.counters.dc0 byte v else if ends then record v { request = v.request } else v)
    by true ends = stored_leaves (has_ram_at v v.counters.dc0)
    by false true = record { latches = refl; key_bytes = refl }
    by false false = record { latches = refl; key_bytes = refl }

is_port_left : (keys : List ℕ) (writes : List PortWrite) (port latch : ℕ) (old new : ChipView) →
    new.latches ≡ old.latches → new.key_bytes ≡ old.key_bytes → IsPort keys writes port latch old →
    IsPort keys writes port latch new
is_port_left keys writes port latch old new latches key_bytes is = record {
  latches = rw latches is.latches;
  key_bytes = rw key_bytes is.key_bytes;
  written = rw latches is.written;
  key = rw key_bytes is.key;
}

ports_stay : (romc byte clocks : ℕ) (vs : List ChipView) (keys : List ℕ) (writes : List PortWrite) →
    (romc == 0x1A) ≡ false → HoldsPorts keys writes vs →
    HoldsPorts keys writes (map (after_step (plain_step romc byte clocks)) vs)
ports_stay romc byte clocks vs keys writes other holds = ports_by romc byte clocks vs keys writes writes holds
    (λ place v port latch lies found is. let left = effect_leaves romc byte (timer_passed clocks v) other in
    is_port_left keys writes port latch v (after_step (plain_step romc byte clocks) v) left.latches left.key_bytes
    is)

-- ---- a port write

-- a data port lies as many places behind the chip's first as its latch among the latches
pub record IsBehind (ports : Option ℕ) (port latch : ℕ) : Type 0 where
  pub first : ℕ
  pub is : ports ≡ Some first
  pub place : port ≡ first + latch

role_latch : (kind : ChipKind) (second third first fourth : Bool) (offset latch : ℕ) →
    latch_place (if third then ControlPort else if fourth then TimerPort else if second then DataPort
    offset else if first then VectorHigh else VectorLow) ≡ Some latch → offset ≡ latch
role_latch kind second true first fourth offset latch e = cc
role_latch kind second false first true offset latch e = cc
role_latch kind true false first false offset latch e = cc
role_latch kind false false true false offset latch e = cc
role_latch kind false false false false offset latch e = cc

pub behind : (v : ChipView) (ports : Option ℕ) (port latch : ℕ) →
    option_and_then latch_place (option_map (role_at v.kind) (option_and_then (offset_from port) ports)) ≡ Some latch →
    IsBehind ports port latch
behind v None port latch e = cc
behind v (Some first) port latch e = by (nat_le first port) (nat_lt port (first + 4)) refl e
  where
    by : (above below : Bool) → nat_le first port ≡ above →
        option_and_then latch_place (option_map (role_at v.kind) (if above && below then Some (port - first) else None))
        ≡ Some latch → IsBehind (Some first) port latch
    by false below is e = cc
    by true false is e = cc
    by true true is e =
        let least : first ≤ port = leb-true first port is in
        let offset : port - first ≡ latch = role_latch v.kind (has_data_ports v.kind) (port - first == 2)
        (port - first == 0) (port - first == 3) (port - first) latch e in
        record { first = first; is = refl; place = omega arith }

-- a data port's latch is one of the chip's
data_latch : (third fourth : Bool) (offset latch : ℕ) → (offset == 2) ≡ third → (offset == 3) ≡ fourth → offset < 4 →
    latch_place (if third then ControlPort else if fourth then TimerPort else DataPort offset) ≡ Some latch → latch < 2
data_latch true fourth offset latch two three four e = cc
data_latch false true offset latch two three four e = cc
data_latch false false offset latch two three four e =
    let same : offset ≡ latch = cc in
    let no_two : offset ≢ 2 = λ here. (let yes : (offset == 2) ≡ true = eq-eqb offset 2 here in cc) in
    let no_three : offset ≢ 3 = λ here. (let yes : (offset == 3) ≡ true = eq-eqb offset 3 here in cc) in
    omega arith

vector_latch : (third fourth first : Bool) (latch : ℕ) →
    latch_place (if third then ControlPort else if fourth then TimerPort else if first then VectorHigh else VectorLow)
    ≡ Some latch → ⊥
vector_latch true fourth first latch e = cc
vector_latch false true first latch e = cc
vector_latch false false true latch e = cc
vector_latch false false false latch e = cc

-- of a chip with data ports
latch_with_data : (first port latch : ℕ) → option_and_then latch_place (option_map (λ offset.
    if offset == 2 then ControlPort else if offset == 3 then TimerPort else DataPort offset) (offset_from port first)) ≡ Some latch →
    latch < 2
latch_with_data first port latch e = by (nat_le first port) (nat_lt port (first + 4)) refl refl e
  where
    by : (above below : Bool) → nat_le first port ≡ above → nat_lt port (first + 4) ≡ below →
        option_and_then latch_place (option_map (λ offset.
        if offset == 2 then ControlPort else if offset == 3 then TimerPort else DataPort offset)
        (if above && below then Some (port - first) else None)) ≡ Some latch → latch < 2
    by false below is under e = cc
    by true false is under e = cc
    by true true is under e =
        let least : first ≤ port = leb-true first port is in
        let most : port < first + 4 = ltb-true port (first + 4) under in
        data_latch (port - first == 2) (port - first == 3) (port - first) latch refl refl (omega arith) e

latch_in : (kind : ChipKind) (ports : Option ℕ) (port latch : ℕ) →
    option_and_then latch_place (option_map (role_at kind) (option_and_then (offset_from port) ports)) ≡ Some latch →
    latch < length (clear_data_ports kind)
latch_in kind None port latch e = cc
latch_in Psu (Some first) port latch e = latch_with_data first port latch e
latch_in Pio (Some first) port latch e = latch_with_data first port latch e
latch_in Smi (Some first) port latch e = by (nat_le first port) (nat_lt port (first + 4)) e
  where
    by : (above below : Bool) → option_and_then latch_place
        (option_map (role_at Smi) (if above && below then Some (port - first) else None)) ≡ Some latch → latch < 0
    by false below e = cc
    by true false e = cc
    by true true e = absurd (vector_latch (port - first == 2) (port - first == 3) (port - first == 0) latch e)

pub latch_small : (v : ChipView) (port latch : ℕ) → data_port v port ≡ Some latch →
    latch < length (clear_data_ports v.kind)
latch_small v port latch e = latch_in v.kind v.ports port latch e

-- the role of a data port
role_of : (role : Option PortRole) (latch : ℕ) → option_and_then latch_place role ≡ Some latch →
    role ≡ Some (DataPort latch)
role_of None latch e = cc
role_of (Some (DataPort place)) latch e = let same : place ≡ latch = cc in ap (λ (n : ℕ). Some (DataPort n)) same
role_of (Some VectorHigh) latch e = cc
role_of (Some VectorLow) latch e = cc
role_of (Some ControlPort) latch e = cc
role_of (Some TimerPort) latch e = cc

-- what a port write leaves of another latch
record LeavesLatch (latch : ℕ) (old new : ChipView) : Type 0 where
  count : length new.latches ≡ length old.latches
  same : slice_index new.latches latch ≡ slice_index old.latches latch
  key_bytes : new.key_bytes ≡ old.key_bytes

leaves_latch : (role : Option PortRole) (latch byte : ℕ) (v : ChipView) →
    ((other : ℕ) → role ≡ Some (DataPort other) → latch ≡ other → ⊥) → LeavesLatch latch v (port_written_if role byte v)
leaves_latch None latch byte v apart = record { count = refl; same = refl; key_bytes = refl }
leaves_latch (Some (DataPort other)) latch byte v apart = record {
  count = length-set v.latches other byte;
  same = get_or-set_other v.latches other latch byte 0 (apart other refl);
  key_bytes = refl;
}
leaves_latch (Some VectorHigh) latch byte v apart = record { count = refl; same = refl; key_bytes = refl }
leaves_latch (Some VectorLow) latch byte v apart = record { count = refl; same = refl; key_bytes = refl }
leaves_latch (Some ControlPort) latch byte v apart = record { count = refl; same = refl; key_bytes = refl }
leaves_latch (Some TimerPort) latch byte v apart = record { count = refl; same = refl; key_bytes = refl }

-- two data ports of a chip have two latches
pub apart_by : (ports : Option ℕ) (a b latch : ℕ) → IsBehind ports a latch → IsBehind ports b latch → a ≡ b
apart_by ports a b latch p q =
    let both : Some p.first ≡ Some q.first = sym p.is ∙ q.is in
    let same : p.first ≡ q.first = cc in
    let at_a = p.place in
    let at_b = q.place in
    omega arith

-- the writes that others have more
latch_of-other : (phi byte last port : ℕ) (taken : Bool) (writes : List PortWrite) → (last == port) ≡ false →
    latch_of port (with_write (write_at phi byte (if taken then Some last else None)) writes) ≡ latch_of port writes
latch_of-other phi byte last port true writes other = rw other refl
latch_of-other phi byte last port false writes other = refl

-- a chip that has the port is count_more
pub counts_one : (has : Seat → Bool) (vs : List ChipView) (k : ℕ) (v : ChipView) → slice_get vs k ≡ Some v →
    has (seat_of v) ≡ true → 1 ≤ length (filter has (map seat_of vs))
counts_one has [] k v lies is = cc
counts_one has (w ∷ vs) zero v lies is = let same : w ≡ v = cc in rw (same, is) (omega arith)
counts_one has (w ∷ vs) (suc k) v lies is = by (has (seat_of w)) (counts_one has vs k v lies is)
  where
    by : (here : Bool) → 1 ≤ length (filter has (map seat_of vs)) →
        1 ≤ length (cond here (seat_of w ∷ filter has (map seat_of vs)) (filter has (map seat_of vs)))
    by true more = omega arith
    by false more = more

-- a served write has at most one party
served_few : (ps : List Party) (socket : Option ℕ) → port_write_ruling ps ≡ Served socket → length ps ≤ 1
served_few [] socket e = omega arith
served_few (p ∷ []) socket e = omega arith
served_few (p ∷ (q ∷ ps)) socket e = cc

-- a chip that has the port as a data port has it
pub has_port : (role : Option PortRole) (latch : ℕ) → option_and_then latch_place role ≡ Some latch →
    is_some role ≡ true
has_port None latch e = cc
has_port (Some role) latch e = refl

module _ (byte clocks phi last : ℕ) (vs : List ChipView) (heard : (k : ℕ) (v : ChipView) → slice_get vs k ≡ Some v →
    v.last ≡ last) (socket : Option ℕ) (reference : ℕ)
    (served : view_ruling 0x1A None reference (enumerate_from 0 vs) ≡ Served socket) where
  -- a port that a chip has, one has
  pub one_takes : (k : ℕ) (v : ChipView) → slice_get vs k ≡ Some v → seat_has_port (seat_of v) last ≡ true →
      (takers last (map seat_of vs) == 1) ≡ true
  one_takes k v lies has =
      let count = parties_count WriteRule 0x1A (λ s. seat_has_port s last) 0 vs
      (λ j w at. ap (seat_has_port (seat_of w)) (heard j w at)) in
      let few : length (parties WriteRule (named_seats 0x1A vs)) ≤ 1 =
      served_few (parties WriteRule (named_seats 0x1A vs)) socket served in
      let some = counts_one (λ s. seat_has_port s last) vs k v lies has in
      let one : takers last (map seat_of vs) ≡ 1 = omega (arith, count, few, some) in
      ap (λ (n : ℕ). n == 1) one

  -- the port that is written, and another one
  written_here : (keys : List ℕ) (writes : List PortWrite) (k : ℕ) (v : ChipView) (latch : ℕ) →
      slice_get vs k ≡ Some v → data_port v last ≡ Some latch → IsPort keys writes last latch v →
      IsPort keys (with_write (write_at phi byte (if_taken last (map seat_of vs))) writes) last latch
      (after_step (plain_step 0x1A byte clocks) v)
  written_here keys writes k v latch lies found is =
      let role : port_role v v.last ≡ Some (DataPort latch) =
      role_of (port_role v v.last) latch (ap (data_port v) (heard k v lies) ∙ found) in
      let timed : ChipView = timer_passed clocks v in
      let latches : (port_written_if (port_role v v.last) byte timed).latches ≡ slice_set v.latches latch byte =
      ap (λ (r : Option PortRole). (port_written_if r byte timed).latches) role in
      let key_bytes : (port_written_if (port_role v v.last) byte timed).key_bytes ≡ v.key_bytes =
      ap (λ (r : Option PortRole). (port_written_if r byte timed).key_bytes) role in
      let one : (takers last (map seat_of vs) == 1) ≡ true =
      one_takes k v lies (has_port (port_role v last) latch found) in
      let now : latch_of last (with_write (write_at phi byte (if_taken last (map seat_of vs))) writes) ≡ byte =
      rw (one, eq-eqb last last refl) refl in
      record {
        latches = subst (λ (l : List ℕ). latch < length l) (sym latches)
            (subst (λ (n : ℕ). latch < n) (sym (length-set v.latches latch byte)) is.latches);
        key_bytes = subst (λ (l : List ℕ). latch < length l) (sym key_bytes) is.key_bytes;
        written = ap (λ (l : List ℕ). slice_index l latch) latches ∙ get_or-set_same v.latches latch byte 0 is.latches
            ∙ sym now;
        key = ap (λ (l : List ℕ). slice_index l latch) key_bytes ∙ is.key;
      }

  written_other : (keys : List ℕ) (writes : List PortWrite) (k : ℕ) (v : ChipView) (port latch : ℕ) →
      slice_get vs k ≡ Some v → (last == port) ≡ false → data_port v port ≡ Some latch →
      IsPort keys writes port latch v →
      IsPort keys (with_write (write_at phi byte (if_taken last (map seat_of vs))) writes) port latch
      (after_step (plain_step 0x1A byte clocks) v)
  written_other keys writes k v port latch lies other found is =
      let timed : ChipView = timer_passed clocks v in
      let left : LeavesLatch latch timed (port_written_if (port_role v v.last) byte timed) =
      leaves_latch (port_role v v.last) latch byte timed apart in
      record {
        latches = subst (λ (n : ℕ). latch < n) (sym left.count) is.latches;
        key_bytes = subst (λ (l : List ℕ). latch < length l) (sym left.key_bytes) is.key_bytes;
        written = left.same ∙ is.written ∙ sym (latch_of-other phi byte last port
            (takers last (map seat_of vs) == 1) writes other);
        key = ap (λ (l : List ℕ). slice_index l latch) left.key_bytes ∙ is.key;
      }
    where
      apart : (place : ℕ) → port_role v v.last ≡ Some (DataPort place) → latch ≡ place → ⊥
      apart place role same =
          let there : data_port v last ≡ Some place =
          ap (data_port v) (sym (heard k v lies))
          ∙ ap (λ (r : Option PortRole). option_and_then latch_place r) role in
          let same_latch : data_port v last ≡ Some latch = there ∙ ap Some (sym same) in
          let same_port : last ≡ port = apart_by v.ports last port latch (behind v v.ports last latch same_latch)
          (behind v v.ports port latch found) in
          let is_there : (last == port) ≡ true = eq-eqb last port same_port in
          cc

  ports_written : (keys : List ℕ) (writes : List PortWrite) → HoldsPorts keys writes vs →
      HoldsPorts keys (with_write (write_at phi byte (if_taken last (map seat_of vs))) writes)
      (map (after_step (plain_step 0x1A byte clocks)) vs)
  ports_written keys writes holds = ports_by 0x1A byte clocks vs keys writes _ holds by
    where
      by : (place : ℕ) (v : ChipView) (port latch : ℕ) → slice_get vs place ≡ Some v → data_port v port ≡ Some latch →
          IsPort keys writes port latch v →
          IsPort keys (with_write (write_at phi byte (if_taken last (map seat_of vs))) writes) port latch
          (after_step (plain_step 0x1A byte clocks) v)
      by place v port latch lies found is = at (last == port) refl
        where
          at : (here : Bool) → (last == port) ≡ here →
              IsPort keys (with_write (write_at phi byte (if_taken last (map seat_of vs))) writes) port latch
              (after_step (plain_step 0x1A byte clocks) v)
          at true here =
              let same : last ≡ port = eqb-true last port here in
              let goes : (p : ℕ) → last ≡ p → data_port v p ≡ Some latch → IsPort keys writes p latch v →
              IsPort keys (with_write (write_at phi byte (if_taken last (map seat_of vs))) writes) p latch
              (after_step (plain_step 0x1A byte clocks) v) =
              λ p e d i. subst (λ (q : ℕ). IsPort keys
              (with_write (write_at phi byte (if_taken last (map seat_of vs))) writes) q latch
              (after_step (plain_step 0x1A byte clocks) v)) e
              (written_here keys writes place v latch lies (ap (data_port v) e ∙ d)
              (subst (λ (q : ℕ). IsPort keys writes q latch v) (sym e) i)) in
              goes port same found is
          at false other = written_other keys writes place v port latch lies other found is

-- ---- any step

pub ports_more : (romc byte clocks phi reference : ℕ) (now : Bool → Flow → Count) (last : ℕ) (socket : Option ℕ)
    (cs : List Copy) (vs : List ChipView) (keys : List ℕ) (writes : List PortWrite) →
    AreCopies now last cs vs → HoldsPorts keys writes vs →
    view_ruling romc None reference (enumerate_from 0 vs) ≡ Served socket →
    HoldsPorts keys (writes_by romc (seats_of cs) phi last byte writes)
    (map (after_step (plain_step romc byte clocks)) vs)
ports_more romc byte clocks phi reference now last socket cs vs keys writes copies holds served = by (romc == 0x1A) refl
  where
    by : (put : Bool) → (romc == 0x1A) ≡ put →
        HoldsPorts keys (if put then with_write (write_at phi byte (if_taken last (seats_of cs))) writes else writes)
        (map (after_step (plain_step romc byte clocks)) vs)
    by true is =
        let code : romc ≡ 0x1A = eqb-true romc 0x1A is in
        let there : view_ruling 0x1A None reference (enumerate_from 0 vs) ≡ Served socket =
        subst (λ (k : ℕ). view_ruling k None reference (enumerate_from 0 vs) ≡ Served socket) code served in
        let done = ports_written byte clocks phi last vs
        (all_heard now last cs vs copies) socket reference there keys writes holds in
        let seated = subst (λ (ss : List Seat). HoldsPorts keys
        (with_write (write_at phi byte (if_taken last ss)) writes)
        (map (after_step (plain_step 0x1A byte clocks)) vs)) (seats_same now last cs vs copies) done in
        subst (λ (k : ℕ). HoldsPorts keys (with_write (write_at phi byte (if_taken last (seats_of cs))) writes)
        (map (after_step (plain_step k byte clocks)) vs)) (sym code) seated
    by false other = ports_stay romc byte clocks vs keys writes other holds
