-- Reset of a machine, from power-on to the position before the first instruction.
use Rattle.std.proofs.Common.{◌≡◌, ℕ, ◌+◌, ◌≤◌, Bool, List, [], ◌∷◌, map, Option, Some, None, refl, sym, ap, ◌∙◌, subst}
use Rattle.std.proofs.Common.{arith}
use Rattle.std.specs.Prelude.{◌-◌}
use Rattle.f8_spec.specs.ChipState.{ChipView, ChipState}
use Rattle.console_spec.specs.AddressSpace.{byte_at}
use Rattle.console_spec.specs.InterruptRequests.{Mark, ArePastWrites, ArePastMarks}
use Rattle.console_spec.specs.declared.PortWrite.{PortWrite}
use Rattle.console_spec.specs.Processor.{Flow, State, after_reset}
use Rattle.console_spec.specs.CounterCopies.{Copy, fetched, own_counts}
use Rattle.console_spec.specs.Services.{Fault}
use Rattle.console_spec.specs.BusTrace.{Course}
use Rattle.console_spec.specs.Run.{Position, goes_unless, reset_fault, reset_course, position_after_reset}
use Rattle.cpu3850.specs.CpuSteps.{CpuState}
use Rattle.probe.specs.ProbeState.{ProbeState}
use Rattle.data_bus.specs.Racks.{views}
use Rattle.data_bus.specs.declared.fault.BusFault.{BusFault}
use Rattle.data_bus.specs.declared.index.Index.{Index}
use Rattle.f8_machine.specs.RackViews.{AreCopies}
use Rattle.f8_machine.specs.Faults.{fault_of}
use Rattle.f8_machine.specs.MachineState.{MachineState, flow_before_fetch}
use Rattle.f8_machine.specs.Refinement.{AreAtZero, IsPowered, IsSettled, IsDone, IsFaulted}
use Rattle.f8_machine.specs.Resetting.{IsAtPower, IsFetched, IsNotFetched}
use Rattle.f8_machine.specs.Rounds.{heard_of}
use Rattle.f8_machine.specs.declared.heard.Heard.{Heard}
use Rattle.f8_machine.specs.declared.outcome.Mode.TheVariants.{Running, Stopped}
use Rattle.f8_machine.specs.declared.outcome.StoppedBy.{StoppedBy}
use Rattle.f8_machine.specs.declared.outcome.StoppedBy.TheVariants.{Fault as ByFault}
use Rattle.f8_machine.proofs.Instructions.{flow_before_fetch-fetched}

at_power : (m : MachineState) (states : List ChipState) (x : Position) → IsPowered m states x →
    IsAtPower m.probe states x
at_power m states x p = record { rack = p.stands.holds.rack; whole = p.stands.holds.memory.whole }

-- a set of counters that is at 0
at_zero : (c : Flow) → c.p ≡ 0 → record c { p = 0 } ≡ c
at_zero c zero = ap (λ (n : ℕ). record c { p = n }) (sym zero)

copies_at_zero : (last : ℕ) (cs : List Copy) (vs : List ChipView) → AreAtZero cs →
    AreCopies (λ second c. fetched (record c { p = 0 })) last cs vs → AreCopies (λ second c. fetched c) last cs vs
copies_at_zero last [] [] zero are = tt
copies_at_zero last [] (v ∷ vs) zero are = absurd are
copies_at_zero last (c ∷ cs) [] zero are = absurd are
copies_at_zero last (c ∷ cs) (v ∷ vs) zero are = (
  record {
    seat = are.0.seat;
    counters = are.0.counters ∙ ap (λ (f : Flow). own_counts c.seat.kind (fetched f)) (at_zero c.flow zero.0);
    heard = are.0.heard;
    filled = are.0.filled;
  },
  copies_at_zero last cs vs zero.1 are.1,
)

-- nothing was written or acknowledged, and reset takes more than 4 Φ
settled_reset : (s : State) → s.writes ≡ [] → s.acknowledged ≡ [] → IsSettled (after_reset s)
settled_reset s unwritten unacknowledged =
    let begun : 4 ≤ s.phi + 14 = omega arith in
    record {
      begun = begun;
      back = record {
        writes = subst (λ (ws : List PortWrite). ArePastWrites (s.phi + 14 - 4) ws) (sym unwritten) tt;
        acknowledged = subst (λ (ms : List Mark). ArePastMarks (s.phi + 14 - 4) ms) (sym unacknowledged) tt;
      };
    }

reset_done_of : (m : MachineState) (states news : List ChipState) (x : Position) (opcode : ℕ) (probe : ProbeState)
    (known : Index) (cpu : CpuState) (flow : Flow) (steps : List Heard) → IsPowered m states x →
    IsFetched opcode probe news steps x → cpu ≡ record m.cpu { opcode = opcode } →
    flow ≡ flow_before_fetch probe.count →
    IsDone (record m { probe = probe; index = known; cpu = cpu; flow = flow; phi = m.phi + 14; mode = Running }) news
    (goes_unless (reset_fault x) (position_after_reset x)) (reset_course x) x.flat.state.writes None steps
reset_done_of m states news x opcode probe known cpu flow steps p is holds moved =
    let c = x.flat.state.flow in
    let zero : record c { p = 0 } ≡ c = at_zero c p.at_zero in
    let reference : probe.count ≡ fetched c = is.rack.reference ∙ ap fetched zero in
    record {
      after = position_after_reset x;
      turns = ap (λ (f : Option Fault). goes_unless f (position_after_reset x)) is.served;
      represents = record {
        stands = record {
          holds = record {
            registers = ap (λ (k : CpuState). k.registers) holds ∙ p.stands.holds.registers;
            own = ap (λ (k : CpuState). k.ports) holds ∙ p.stands.holds.own;
            rack = record {
              reference = reference;
              copies = copies_at_zero probe.last x.copies (views news) p.copies_at_zero is.rack.copies;
              flat = is.rack.flat;
              ports = is.rack.ports;
              in_time = is.rack.in_time;
            };
            free = p.stands.holds.free;
            memory = p.stands.holds.memory;
            addresses = p.stands.holds.addresses;
          };
          flow = moved ∙ ap flow_before_fetch reference ∙ flow_before_fetch-fetched c p.stands.holds.addresses;
          phi = ap (λ (n : ℕ). n + 14) p.stands.phi;
          chain = p.stands.chain;
          keys = p.stands.keys;
        };
        settled = settled_reset x.flat.state p.unwritten p.unacknowledged;
        opcode = ap (λ (k : CpuState). k.opcode) holds ∙ is.opcode_is ∙ ap (byte_at x.flat.memory) (sym p.at_zero);
        mode = tt;
      };
      running = refl;
      written = refl;
      trace = is.trace ∙ ap (λ (k : Course). record { steps = k.steps; fault = None }) (sym is.trace);
      recorded = is.recorded ∙ ap (λ (k : Course). map heard_of k.steps) (sym is.trace);
    }

-- reset that is done
pub reset_done : (m k : MachineState) → k ≡ m →
    (states news : List ChipState) (x : Position) (opcode : ℕ) (probe : ProbeState) (known : Index) (cpu : CpuState) (flow : Flow)
    (steps : List Heard) → IsPowered m states x →
    (IsAtPower k.probe states x → IsFetched opcode probe news steps x) → cpu ≡ record k.cpu { opcode = opcode } →
    flow ≡ flow_before_fetch probe.count →
    IsDone (record k { probe = probe; index = known; cpu = cpu; flow = flow; phi = k.phi + 14; mode = Running }) news
    (goes_unless (reset_fault x) (position_after_reset x)) (reset_course x) x.flat.state.writes None steps
reset_done m k same states news x opcode probe known cpu flow steps p is holds moved =
    let there : IsPowered k states x = subst (λ (y : MachineState). IsPowered y states x) (sym same) p in
    reset_done_of k states news x opcode probe known cpu flow steps there (is (at_power k states x there)) holds moved

-- and reset that is not
pub reset_cut : (m k : MachineState) → k ≡ m →
    (states : List ChipState) (x : Position) (probe : ProbeState) (known : Index) (fault : BusFault) (why : StoppedBy)
    (long : Bool) (steps : List Heard) → IsPowered m states x →
    (IsAtPower k.probe states x → IsNotFetched steps fault long x) → why ≡ ByFault fault long →
    IsFaulted m (record k { probe = probe; index = known; mode = Stopped why }) (goes_unless (reset_fault x) (position_after_reset x))
    (reset_course x) fault long steps
reset_cut m k same states x probe known fault why long steps p cut stopped =
    let there : IsPowered k states x = subst (λ (y : MachineState). IsPowered y states x) (sym same) p in
    let is = cut (at_power k states x there) in
    subst (λ (y : MachineState). IsFaulted y (record k { probe = probe; index = known; mode = Stopped why })
    (goes_unless (reset_fault x) (position_after_reset x)) (reset_course x) fault long steps) same (record {
      turns = ap (λ (f : Option Fault). goes_unless f (position_after_reset x)) is.unserved;
      trace = is.trace ∙ ap (λ (c : Course). record { steps = c.steps; fault = Some (fault_of fault, long) })
          (sym is.trace);
      recorded = is.recorded ∙ ap (λ (c : Course). map heard_of c.steps) (sym is.trace);
      kept = ap (λ (h : StoppedBy). record k { probe = probe; index = known; mode = Stopped h }) stopped;
    })
