-- An external pulse keeps what a machine and its rack stand for.
use Rattle.std.proofs.Common.{◌≡◌, ℕ, ◌-◌, ◌<◌, true, List, [], refl, sym, ap, subst, ◌∙◌, arith}
use Rattle.std.specs.Prelude.{◌%◌, ◌==◌, Option, Some, None, slice_get}
use Rattle.f8_spec.specs.BusCodes.{Count}
use Rattle.f8_spec.specs.ChipState.{ChipView, ChipState, admits_pulses}
use Rattle.console_spec.specs.InterruptRequests.{control_port, since_of}
use Rattle.console_spec.specs.Processor.{Flow, State, history_of}
use Rattle.console_spec.specs.Run.{Position, pulse_in}
use Rattle.console_spec.specs.Telling.{with_event}
use Rattle.console_spec.specs.Writes.{latch_of}
use Rattle.console_spec.specs.declared.Event.TheVariants.{Pulse}
use Rattle.console_spec.specs.declared.PortWrite.{PortWrite}
use Rattle.data_bus.specs.Racks.{views}
use Rattle.f8_machine.specs.MachineState.{MachineState}
use Rattle.f8_machine.specs.Refinement.{Stands, IsSettled, Represents, IsPowered}
use Rattle.f8_machine.specs.RequestsHeld.{HasRequests, IsInTime, RackPulses, RackPulsed}
use Rattle.f8_machine.proofs.Acknowledging.{copies_unasked, flat_unasked, ports_unasked}
use Rattle.f8_machine.proofs.Running.{runs_alike}
use Rattle.f8_machine.proofs.RequestEvents.{views_pulsed, in_time_pulsed}
use Rattle.f8_machine.proofs.Settling.{settled_pulsed, since_before}

-- a pulse that the chip in a socket takes comes after the last control write and acknowledgement of that chip
abbrev ComesLater : ℕ → List ChipState → State → Type 0
ComesLater socket states s =
    (v : ChipView) (first : ℕ) → slice_get (views states) socket ≡ Some v → v.ports ≡ Some first → admits_pulses v.control ≡ true →
    since_of first socket (history_of s) < s.phi

stands_pulsed : (now : Flow → Count) (m : MachineState) (olds news : List ChipState) (x : Position) (socket : ℕ) →
    ComesLater socket olds x.flat.state → RackPulses socket olds news → Stands now m olds x → Stands now m news (pulse_in (Some socket) x)
stands_pulsed now m olds news x socket later all stands =
    let there = stands.holds in
    let same = views_pulsed socket olds news all in
    record {
      holds = record {
        registers = there.registers;
        own = there.own;
        rack = record {
          reference = there.rack.reference;
          copies = copies_unasked (λ second c. now c) m.probe.last x.copies (views olds) (views news) same there.rack.copies;
          flat = flat_unasked x.flat.memory (views olds) (views news) same there.rack.flat;
          ports = ports_unasked x.flat.state.keys x.flat.state.writes (views olds) (views news) same there.rack.ports;
          in_time = in_time_pulsed socket x.flat.state.phi (history_of x.flat.state) olds news later all there.rack.in_time;
        };
        free = there.free;
        memory = there.memory;
        addresses = there.addresses;
      };
      flow = stands.flow;
      phi = stands.phi;
      chain = stands.chain;
      keys = stands.keys;
    }

-- ---- between instructions: the last write and the last acknowledgement lie 4 Φ back

later_settled : (socket : ℕ) (states : List ChipState) (s : State) → IsSettled s → ComesLater socket states s
later_settled socket states s settled v first lies ports takes =
    let begun = settled.begun in
    since_before first socket (s.phi - 4) s.phi (history_of s) settled.back (omega (arith, begun))

represents_in : (place : Option ℕ) (m : MachineState) (olds news : List ChipState) (x : Position) → RackPulsed place olds news →
    Represents m olds x → Represents m news (pulse_in place x)
represents_in None m olds news x same r = subst (λ (states : List ChipState). Represents m states x) (sym same) r
represents_in (Some socket) m olds news x all r = record {
  stands = stands_pulsed _ m olds news x socket (later_settled socket olds x.flat.state r.settled) all r.stands;
  settled = record {
    begun = r.settled.begun;
    back = settled_pulsed socket x.flat.state.phi (x.flat.state.phi - 4) (history_of x.flat.state) r.settled.back;
  };
  opcode = r.opcode;
  mode = runs_alike x (pulse_in (Some socket) x) refl refl m.mode r.mode;
}

pub represents_pulsed : (m : MachineState) (olds news : List ChipState) (x : Position) (chip : ℕ) →
    RackPulsed (slice_get m.chain chip) olds news → Represents m olds x → Represents m news (with_event (Pulse chip) x)
represents_pulsed m olds news x chip all r =
    subst (λ (chain : List ℕ). Represents m news (pulse_in (slice_get chain chip) x)) r.stands.chain
    (represents_in (slice_get m.chain chip) m olds news x all r)

-- ---- before reset: no port is written, so no chip takes a pulse

deaf : (ports : Option ℕ) (socket first : ℕ) (s : State) (v : ChipView) → s.writes ≡ [] → ports ≡ Some first →
    HasRequests ports socket (history_of s) s.phi v → admits_pulses v.control ≡ true → ⊥
deaf None socket first s v unwritten same is takes = cc
deaf (Some own) socket first s v unwritten same is takes =
    let control : v.control ≡ 0 =
    is.device.control_byte ∙ ap (λ (ws : List PortWrite). latch_of (control_port own) ws) unwritten in
    let lost = ap (λ (c : ℕ). c % 4 == 1) control in
    cc

later_powered : (socket : ℕ) (states : List ChipState) (s : State) → s.writes ≡ [] →
    IsInTime s.phi (history_of s) (views states) → ComesLater socket states s
later_powered socket states s unwritten is v first lies ports takes =
    absurd (deaf v.ports socket first s v unwritten ports (is.requests socket v lies) takes)

powered_in : (place : Option ℕ) (m : MachineState) (olds news : List ChipState) (x : Position) → RackPulsed place olds news →
    IsPowered m olds x → IsPowered m news (pulse_in place x)
powered_in None m olds news x same p = subst (λ (states : List ChipState). IsPowered m states x) (sym same) p
powered_in (Some socket) m olds news x all p = record {
  stands = stands_pulsed _ m olds news x socket
      (later_powered socket olds x.flat.state p.unwritten p.stands.holds.rack.in_time) all p.stands;
  unwritten = p.unwritten;
  unacknowledged = p.unacknowledged;
  at_zero = p.at_zero;
  copies_at_zero = p.copies_at_zero;
  powered = p.powered;
}

pub powered_pulsed : (m : MachineState) (olds news : List ChipState) (x : Position) (chip : ℕ) →
    RackPulsed (slice_get m.chain chip) olds news → IsPowered m olds x → IsPowered m news (with_event (Pulse chip) x)
powered_pulsed m olds news x chip all p =
    subst (λ (chain : List ℕ). IsPowered m news (pulse_in (slice_get chain chip) x)) p.stands.chain
    (powered_in (slice_get m.chain chip) m olds news x all p)
