-- A key byte from outside keeps what a machine and its rack stand for.
use Rattle.std.proofs.Common.{◌≡◌, ℕ, zero, suc, ◌*◌, ◌<◌, ◌≤◌, Bool, true, false, List, [], ◌∷◌, map, length}
use Rattle.std.proofs.Common.{refl, sym, ap, ap₂, ◌∙◌, subst, arith, eqb-true, eq-eqb, length-set}
use Rattle.std.specs.Prelude.{◌==◌, nat_lt, if◌then◌else◌, Option, Some, None, option_map, option_and_then, slice_get}
use Rattle.std.specs.Prelude.{slice_index, slice_set}
use Rattle.std.proofs.lemmas.Bool.{lt-ltb, le-ltb}
use Rattle.std.proofs.lemmas.List.{get_or-set_same, get_or-set_other}
use Rattle.std.proofs.lemmas.Option.{slice_get-map}
use Rattle.f8_spec.specs.BusCodes.{Count}
use Rattle.f8_spec.specs.BusArbitration.{Seat, seat_of, seat_has_port, seat_has_data_port}
use Rattle.f8_spec.specs.ChipState.{ChipView, ChipState, data_port, port_role, role_at, offset_from, latch_place}
use Rattle.f8_spec.specs.ChipState.{keyed_at, keyed, holds, byte_in}
use Rattle.console_spec.specs.AddressSpace.{byte_at}
use Rattle.console_spec.specs.Processor.{Flow, State, with_key, history_of}
use Rattle.console_spec.specs.CounterCopies.{Copy}
use Rattle.console_spec.specs.Run.{Position, seats_of}
use Rattle.console_spec.specs.declared.Event.TheVariants.{Keys}
use Rattle.console_spec.specs.Telling.{with_event}
use Rattle.console_spec.specs.Writes.{takers}
use Rattle.console_spec.specs.declared.PortWrite.{PortWrite}
use Rattle.cpu3850.specs.CpuPorts.{PortBytes, with_own_key}
use Rattle.cpu3850.specs.CpuSteps.{CpuState}
use Rattle.cpu3850.specs.OwnWrites.{own_ports}
use Rattle.cpu3850.proofs.PortLaws.{own_ports-with_key}
use Rattle.data_bus.specs.Racks.{NumberedZip, views}
use Rattle.data_bus.proofs.Zipped.{zip_mapped}
use Rattle.f8_machine.specs.RackViews.{AreCopies, HeldOnce, HoldsFlat, ReadOnce, IsPort, HoldsPorts}
use Rattle.f8_machine.specs.Keying.{is_own, KeysInSocket, RackTakesKeys, RackKeyedBy, RackKeyed, keyed_machine}
use Rattle.f8_machine.specs.MachineState.{MachineState}
use Rattle.f8_machine.specs.RequestsHeld.{IsInTime}
use Rattle.f8_machine.specs.Refinement.{Stands, Represents, IsPowered, RunsTo}
use Rattle.f8_machine.proofs.Copies.{seats_same}
use Rattle.f8_machine.proofs.Holding.{holds_flat_by}
use Rattle.f8_machine.proofs.Kept.{Comes, comes}
use Rattle.f8_machine.proofs.PortEnds.{free_of}
use Rattle.f8_machine.proofs.PortSteps.{behind, apart_by, counts_one, has_port}
use Rattle.f8_machine.proofs.Running.{runs_alike}
use Rattle.f8_machine.proofs.RequestEvents.{in_time_keyed}

-- ---- what a key byte leaves of a chip

record LeavesRest (old new : ChipView) : Type 0 where
  seat : seat_of new ≡ seat_of old
  counters : new.counters ≡ old.counters
  bytes : new.bytes ≡ old.bytes
  last : new.last ≡ old.last
  latches : new.latches ≡ old.latches

keyed_leaves : (place : Option ℕ) (byte : ℕ) (v : ChipView) → LeavesRest v (keyed_at place byte v)
keyed_leaves None byte v = record { seat = refl; counters = refl; bytes = refl; last = refl; latches = refl }
keyed_leaves (Some place) byte v = record { seat = refl; counters = refl; bytes = refl; last = refl; latches = refl }

-- the views of a rack
keyed_from : (port byte n : ℕ) (olds news : List ChipState) → NumberedZip (KeysInSocket port byte) n olds news →
    views news ≡ map (keyed port byte) (views olds)
keyed_from port byte n olds news all =
    zip_mapped (KeysInSocket port byte) (λ (s : ChipState). s.view) (λ (s : ChipState). s.view) (keyed port byte)
    (λ k old new one. one.view) n olds news all

seats_keyed : (port byte : ℕ) (vs : List ChipView) → map seat_of (map (keyed port byte) vs) ≡ map seat_of vs
seats_keyed port byte [] = refl
seats_keyed port byte (v ∷ vs) = ap₂ (λ s ss. s ∷ ss) (keyed_leaves (data_port v port) byte v).seat
    (seats_keyed port byte vs)

copies_keyed : (now : Bool → Flow → Count) (last port byte : ℕ) (cs : List Copy) (vs : List ChipView) →
    AreCopies now last cs vs → AreCopies now last cs (map (keyed port byte) vs)
copies_keyed now last port byte [] [] are = tt
copies_keyed now last port byte [] (v ∷ vs) are = absurd are
copies_keyed now last port byte (c ∷ cs) [] are = absurd are
copies_keyed now last port byte (c ∷ cs) (v ∷ vs) are =
    let left = keyed_leaves (data_port v port) byte v in (
      record {
        seat = left.seat ∙ are.0.seat;
        counters = left.counters ∙ are.0.counters;
        heard = left.last ∙ are.0.heard;
        filled = ap length left.bytes ∙ are.0.filled ∙ ap (λ (s : Seat). length s.pages * 256) (sym left.seat);
      },
      copies_keyed now last port byte cs vs are.1,
    )

flat_keyed : (memory : List ℕ) (port byte : ℕ) (vs : List ChipView) → HoldsFlat memory vs →
    HoldsFlat memory (map (keyed port byte) vs)
flat_keyed memory port byte vs flat = holds_flat_by vs (map (keyed port byte) vs) (seats_keyed port byte vs) memory says
  where
    says : (place : ℕ) (v w : ChipView) (at : ℕ) → at < 65536 → slice_get vs place ≡ Some v →
        slice_get (map (keyed port byte) vs) place ≡ Some w →
        holds v at ≡ true → HeldOnce vs at place → byte_in v.pages w.bytes at ≡ Some (byte_at memory at)
    says place v w at small lies lies_after held once =
        let both : Some (keyed port byte v) ≡ Some w =
        ap (option_map (keyed port byte)) (sym lies) ∙ sym (slice_get-map (keyed port byte) vs place)
        ∙ lies_after in
        let same : keyed port byte v ≡ w = cc in
        ap (λ (l : List ℕ). byte_in v.pages l at)
        (ap (λ (u : ChipView). u.bytes) (sym same) ∙ (keyed_leaves (data_port v port) byte v).bytes)
        ∙ flat place v at small lies held once

-- ---- the ports

-- the key byte of the port, and of another one
key_here : (keys : List ℕ) (writes : List PortWrite) (port latch byte : ℕ) (v : ChipView) → port < length keys →
    data_port v port ≡ Some latch → IsPort keys writes port latch v →
    IsPort (slice_set keys port byte) writes port latch (keyed port byte v)
key_here keys writes port latch byte v small found is =
    let set : (keyed port byte v).key_bytes ≡ slice_set v.key_bytes latch byte =
    ap (λ (o : Option ℕ). (keyed_at o byte v).key_bytes) found in
    let latches = (keyed_leaves (data_port v port) byte v).latches in
    record {
      latches = subst (λ (l : List ℕ). latch < length l) (sym latches) is.latches;
      key_bytes = subst (λ (l : List ℕ). latch < length l) (sym set)
          (subst (λ (n : ℕ). latch < n) (sym (length-set v.key_bytes latch byte)) is.key_bytes);
      written = ap (λ (l : List ℕ). slice_index l latch) latches ∙ is.written;
      key = ap (λ (l : List ℕ). slice_index l latch) set ∙ get_or-set_same v.key_bytes latch byte 0 is.key_bytes
          ∙ sym (get_or-set_same keys port byte 0 small);
    }

-- another latch's key byte
record LeavesKey (latch : ℕ) (old new : ChipView) : Type 0 where
  count : length new.key_bytes ≡ length old.key_bytes
  same : slice_index new.key_bytes latch ≡ slice_index old.key_bytes latch

leaves_key : (place : Option ℕ) (latch byte : ℕ) (v : ChipView) →
    ((other : ℕ) → place ≡ Some other → latch ≡ other → ⊥) → LeavesKey latch v (keyed_at place byte v)
leaves_key None latch byte v apart = record { count = refl; same = refl }
leaves_key (Some other) latch byte v apart =
    record {
      count = length-set v.key_bytes other byte;
      same = get_or-set_other v.key_bytes other latch byte 0 (apart other refl);
    }

key_other : (keys : List ℕ) (writes : List PortWrite) (port other latch byte : ℕ) (v : ChipView) → (other ≡ port → ⊥) →
    data_port v other ≡ Some latch → IsPort keys writes other latch v →
    IsPort (slice_set keys port byte) writes other latch (keyed port byte v)
key_other keys writes port other latch byte v apart found is =
    let left = leaves_key (data_port v port) latch byte v different in
    let latches = (keyed_leaves (data_port v port) byte v).latches in
    record {
      latches = subst (λ (l : List ℕ). latch < length l) (sym latches) is.latches;
      key_bytes = subst (λ (n : ℕ). latch < n) (sym left.count) is.key_bytes;
      written = ap (λ (l : List ℕ). slice_index l latch) latches ∙ is.written;
      key = left.same ∙ is.key ∙ sym (get_or-set_other keys port other byte 0 apart);
    }
  where
    different : (place : ℕ) → data_port v port ≡ Some place → latch ≡ place → ⊥
    different place there same =
        let same_latch : data_port v port ≡ Some latch = there ∙ ap Some (sym same) in
        apart (apart_by v.ports other port latch (behind v v.ports other latch found)
        (behind v v.ports port latch same_latch))

ports_keyed : (keys : List ℕ) (writes : List PortWrite) (port byte : ℕ) (vs : List ChipView) → port < length keys →
    HoldsPorts keys writes vs → HoldsPorts (slice_set keys port byte) writes (map (keyed port byte) vs)
ports_keyed keys writes port byte vs small holds_ports place w other latch lies found once =
    let old : Comes (keyed port byte) (slice_get vs place) w =
    comes (keyed port byte) (slice_get vs place) w (sym (slice_get-map (keyed port byte) vs place) ∙ lies) in
    let seat : seat_of w ≡ seat_of old.from =
    ap seat_of old.gives ∙ (keyed_leaves (data_port old.from port) byte old.from).seat in
    let before : data_port old.from other ≡ Some latch =
    ap (λ (s : Seat). option_and_then latch_place
    (option_map (role_at s.kind) (option_and_then (offset_from other) s.ports))) (sym seat) ∙ found in
    let is : IsPort keys writes other latch old.from =
    holds_ports place old.from other latch old.is before once_before in
    subst (λ (v : ChipView). IsPort (slice_set keys port byte) writes other latch v) (sym old.gives)
    (by (other == port) refl old.from before is)
  where
    once_before : ReadOnce vs other place
    once_before j v lies has =
        once j (keyed port byte v) (slice_get-map (keyed port byte) vs j ∙ ap (option_map (keyed port byte)) lies)
        (ap (λ (s : Seat). seat_has_data_port s other) (keyed_leaves (data_port v port) byte v).seat ∙ has)

    by : (here : Bool) → (other == port) ≡ here → (v : ChipView) → data_port v other ≡ Some latch →
        IsPort keys writes other latch v → IsPort (slice_set keys port byte) writes other latch (keyed port byte v)
    by true here v before is =
        let same : other ≡ port = eqb-true other port here in
        subst (λ (p : ℕ). IsPort (slice_set keys port byte) writes p latch (keyed port byte v)) (sym same)
        (key_here keys writes port latch byte v small (ap (data_port v) (sym same) ∙ before)
        (subst (λ (p : ℕ). IsPort keys writes p latch v) same is))
    by false here v before is = key_other keys writes port other latch byte v
        (λ same. (let yes : (other == port) ≡ true = eq-eqb other port same in cc)) before is

-- a key byte of the processor's own ports
ports_own : (keys : List ℕ) (writes : List PortWrite) (port byte : ℕ) (vs : List ChipView) →
    takers port (map seat_of vs) ≡ 0 → HoldsPorts keys writes vs → HoldsPorts (slice_set keys port byte) writes vs
ports_own keys writes port byte vs none holds_ports place v other latch lies found once =
    let is = holds_ports place v other latch lies found once in
    let apart : other ≡ port → ⊥ = λ same. let has : seat_has_port (seat_of v) port ≡ true =
    has_port (port_role v port) latch (ap (data_port v) (sym same) ∙ found) in
    let some = counts_one (λ s. seat_has_port s port) vs place v lies has in omega (arith, some, none) in
    record {
      latches = is.latches;
      key_bytes = is.key_bytes;
      written = is.written;
      key = is.key ∙ sym (get_or-set_other keys port other byte 0 apart);
    }

-- ---- a machine

-- the key byte of another port is not the processor's
own_ports_other : (port byte : ℕ) (s : State) → 2 ≤ length s.keys → nat_lt port 2 ≡ false →
    own_ports (with_key port byte s) ≡ own_ports s
own_ports_other zero byte s two other = cc
own_ports_other (suc zero) byte s two other = cc
own_ports_other (suc (suc n)) byte s two other = own_ports-with_key (suc (suc n)) byte s two

module _ (now : Flow → Count) (m : MachineState) (olds news : List ChipState) (x : Position) (port byte : ℕ)
    (small : port < 256) (stands : Stands now m olds x) where
  keyed_by : (own : Bool) → is_own port ≡ own → RackKeyedBy own port byte olds news →
      Stands now (if own then record m { cpu = record m.cpu { ports = with_own_key port byte m.cpu.ports } } else m)
      news (with_event (Keys port byte) x)
  keyed_by true own same =
      let there = stands.holds in
      let two : 2 ≤ length x.flat.state.keys = omega (arith, stands.keys) in
      let vs : views news ≡ views olds = ap views same in
      let seats : map seat_of (views olds) ≡ seats_of x.copies =
      seats_same (λ second c. now c) m.probe.last x.copies (views olds) there.rack.copies in
      let none : takers port (map seat_of (views olds)) ≡ 0 =
      ap (takers port) seats ∙ free_of port (seats_of x.copies) there.free own in
      record {
        holds = record {
          registers = there.registers;
          own = ap (with_own_key port byte) there.own ∙ sym (own_ports-with_key port byte x.flat.state two);
          rack = record {
            reference = there.rack.reference;
            copies = subst (λ (ws : List ChipView). AreCopies (λ second c. now c) m.probe.last x.copies ws)
                (sym vs) there.rack.copies;
            flat = subst (λ (ws : List ChipView). HoldsFlat x.flat.memory ws) (sym vs) there.rack.flat;
            ports = subst (λ (ws : List ChipView). HoldsPorts
                (slice_set x.flat.state.keys port byte) x.flat.state.writes ws) (sym vs)
                (ports_own x.flat.state.keys x.flat.state.writes port byte (views olds) none there.rack.ports);
            in_time = subst (λ (ws : List ChipView). IsInTime x.flat.state.phi (history_of x.flat.state) ws) (sym vs)
                there.rack.in_time;
          };
          free = there.free;
          memory = there.memory;
          addresses = there.addresses;
        };
        flow = stands.flow;
        phi = stands.phi;
        chain = stands.chain;
        keys = length-set x.flat.state.keys port byte ∙ stands.keys;
      }
  keyed_by false other all =
      let there = stands.holds in
      let two : 2 ≤ length x.flat.state.keys = omega (arith, stands.keys) in
      let within : port < length x.flat.state.keys = omega (arith, stands.keys, small) in
      let vs : views news ≡ map (keyed port byte) (views olds) = keyed_from port byte 0 olds news all in
      record {
        holds = record {
          registers = there.registers;
          own = there.own ∙ sym (own_ports_other port byte x.flat.state two other);
          rack = record {
            reference = there.rack.reference;
            copies = subst (λ (ws : List ChipView). AreCopies (λ second c. now c) m.probe.last x.copies ws) (sym vs)
                (copies_keyed (λ second c. now c) m.probe.last port byte x.copies (views olds) there.rack.copies);
            flat = subst (λ (ws : List ChipView). HoldsFlat x.flat.memory ws) (sym vs)
                (flat_keyed x.flat.memory port byte (views olds) there.rack.flat);
            ports = subst (λ (ws : List ChipView). HoldsPorts
                (slice_set x.flat.state.keys port byte) x.flat.state.writes ws) (sym vs)
                (ports_keyed x.flat.state.keys x.flat.state.writes port byte (views olds) within there.rack.ports);
            in_time = subst (λ (ws : List ChipView). IsInTime x.flat.state.phi (history_of x.flat.state) ws) (sym vs)
                (in_time_keyed port byte x.flat.state.phi (history_of x.flat.state) (views olds) there.rack.in_time);
          };
          free = there.free;
          memory = there.memory;
          addresses = there.addresses;
        };
        flow = stands.flow;
        phi = stands.phi;
        chain = stands.chain;
        keys = length-set x.flat.state.keys port byte ∙ stands.keys;
      }

  pub stands_keyed : RackKeyed port byte olds news →
      Stands now (keyed_machine port byte m) news (with_event (Keys port byte) x)
  stands_keyed all = keyed_by (is_own port) refl all

-- what a key byte leaves of a machine
mode_keyed : (own : Bool) (ports : PortBytes) (m : MachineState) →
    (if own then record m { cpu = record m.cpu { ports = ports } } else m).mode ≡ m.mode
mode_keyed true ports m = refl
mode_keyed false ports m = refl

opcode_keyed : (own : Bool) (ports : PortBytes) (m : MachineState) →
    (if own then record m { cpu = record m.cpu { ports = ports } } else m).cpu.opcode ≡ m.cpu.opcode
opcode_keyed true ports m = refl
opcode_keyed false ports m = refl

pub represents_keyed : (m after : MachineState) (olds news : List ChipState) (x : Position) (port byte : ℕ) →
    port < 256 → after ≡ keyed_machine port byte m → RackKeyed port byte olds news →
    Represents m olds x → Represents after news (with_event (Keys port byte) x)
represents_keyed m after olds news x port byte small is all r =
    subst (λ (k : MachineState). Represents k news (with_event (Keys port byte) x)) (sym is) (record {
      stands = stands_keyed _ m olds news x port byte small r.stands all;
      settled = record { begun = r.settled.begun; back = r.settled.back };
      opcode = opcode_keyed (is_own port) (with_own_key port byte m.cpu.ports) m ∙ r.opcode;
      mode = subst (RunsTo (with_event (Keys port byte) x))
          (sym (mode_keyed (is_own port) (with_own_key port byte m.cpu.ports) m))
          (runs_alike x (with_event (Keys port byte) x) refl refl m.mode r.mode);
    })

pub powered_keyed : (m after : MachineState) (olds news : List ChipState) (x : Position) (port byte : ℕ) → port < 256 →
    after ≡ keyed_machine port byte m → RackKeyed port byte olds news →
    IsPowered m olds x → IsPowered after news (with_event (Keys port byte) x)
powered_keyed m after olds news x port byte small is all p =
    subst (λ (k : MachineState). IsPowered k news (with_event (Keys port byte) x)) (sym is) (record {
      stands = stands_keyed _ m olds news x port byte small p.stands all;
      unwritten = p.unwritten;
      unacknowledged = p.unacknowledged;
      at_zero = p.at_zero;
      copies_at_zero = p.copies_at_zero;
      powered = mode_keyed (is_own port) (with_own_key port byte m.cpu.ports) m ∙ p.powered;
    })

-- ---- by the port

machine_own : (m k : MachineState) → k ≡ m → (port byte : ℕ) → port < 2 → (cpu : CpuState) →
    cpu ≡ record k.cpu { ports = with_own_key port byte k.cpu.ports } →
    record k { cpu = cpu } ≡ keyed_machine port byte m
machine_own m k same port byte own cpu is =
    let test : is_own port ≡ true = lt-ltb port 2 own in
    ap (λ (c : CpuState). record k { cpu = c }) is
    ∙ ap (λ (b : Bool). if b then record k { cpu = record k.cpu { ports = with_own_key port byte k.cpu.ports } } else k)
    (sym test)
    ∙ ap (keyed_machine port byte) same

rack_own : (port byte : ℕ) (states : List ChipState) → port < 2 → RackKeyed port byte states states
rack_own port byte states own = let test : is_own port ≡ true = lt-ltb port 2 own in rw test refl

machine_other : (m : MachineState) (port byte : ℕ) → 2 ≤ port → m ≡ keyed_machine port byte m
machine_other m port byte other = let test : is_own port ≡ false = le-ltb port 2 other in rw test refl

rack_other : (port byte : ℕ) (olds news : List ChipState) → 2 ≤ port → RackTakesKeys port byte olds news →
    RackKeyed port byte olds news
rack_other port byte olds news other all = let test : is_own port ≡ false = le-ltb port 2 other in rw test all

pub represents_own : (m k : MachineState) → k ≡ m → (states : List ChipState) (x : Position) (port byte : ℕ) →
    port < 2 → (cpu : CpuState) → cpu ≡ record k.cpu { ports = with_own_key port byte k.cpu.ports } →
    Represents m states x → Represents (record k { cpu = cpu }) states (with_event (Keys port byte) x)
represents_own m k same states x port byte own cpu is r =
    represents_keyed m (record k { cpu = cpu }) states states x port byte (omega arith)
    (machine_own m k same port byte own cpu is) (rack_own port byte states own) r

pub powered_own : (m k : MachineState) → k ≡ m → (states : List ChipState) (x : Position) (port byte : ℕ) → port < 2 →
    (cpu : CpuState) → cpu ≡ record k.cpu { ports = with_own_key port byte k.cpu.ports } →
    IsPowered m states x → IsPowered (record k { cpu = cpu }) states (with_event (Keys port byte) x)
powered_own m k same states x port byte own cpu is p =
    powered_keyed m (record k { cpu = cpu }) states states x port byte (omega arith)
    (machine_own m k same port byte own cpu is) (rack_own port byte states own) p

pub represents_others : (m : MachineState) (olds news : List ChipState) (x : Position) (port byte : ℕ) → port < 256 →
    2 ≤ port → RackTakesKeys port byte olds news →
    Represents m olds x → Represents m news (with_event (Keys port byte) x)
represents_others m olds news x port byte small other all r =
    represents_keyed m m olds news x port byte small (machine_other m port byte other)
    (rack_other port byte olds news other all) r

pub powered_others : (m : MachineState) (olds news : List ChipState) (x : Position) (port byte : ℕ) → port < 256 →
    2 ≤ port → RackTakesKeys port byte olds news →
    IsPowered m olds x → IsPowered m news (with_event (Keys port byte) x)
powered_others m olds news x port byte small other all p =
    powered_keyed m m olds news x port byte small (machine_other m port byte other)
    (rack_other port byte olds news other all) p
