-- How an instruction and reset begin and end on the bus.
use Rattle.std.proofs.Common.{◌≡◌, ℕ, ◌+◌, Bool, true, false, List, [], ◌∷◌, ◌++◌, append-nil, length, map, refl, ap, ◌∙◌, sym}
use Rattle.std.proofs.Common.{subst, arith}
use Rattle.std.specs.Prelude.{Option, None, Some}
use Rattle.f8_spec.specs.BusCodes.{Count}
use Rattle.f8_spec.specs.ChipState.{ChipView, ChipState}
use Rattle.f8_spec.specs.Instructions.{row_of}
use Rattle.f8_spec.specs.MicroSteps.{steps_before_fetch, reset_steps}
use Rattle.f8_spec.specs.declared.instructions.Row.{Row}
use Rattle.f8_spec.specs.declared.instructions.Row.TheVariants.{Branch, BranchIsar}
use Rattle.console_spec.specs.FlatStep.{with_acknowledged}
use Rattle.console_spec.specs.InterruptRequests.{Mark}
use Rattle.console_spec.specs.declared.PortWrite.{PortWrite}
use Rattle.f8_spec.specs.declared.instructions.Op.{Op}
use Rattle.console_spec.specs.Processor.{Flow, Inputs, counters_after, write_at, with_write}
use Rattle.console_spec.specs.BusAccesses.{Access, accesses_before_fetch, last_access}
use Rattle.console_spec.specs.Services.{first_fault}
use Rattle.console_spec.specs.BusTrace.{TracedStep, ending_steps, steps_with}
use Rattle.console_spec.specs.Run.{Position, seats_of, instruction_fault, instruction_course, reset_fault, reset_access}
use Rattle.console_spec.specs.Run.{reset_gets, reset_course, gets_at, gets_all_at, position_after, position_after_reset}
use Rattle.console_spec.proofs.InputLaws.{accesses-with_opcode}
use Rattle.console_spec.specs.CounterCopies.{fetched, unreset}
use Rattle.console_spec.proofs.Walks.{follows}
use Rattle.probe.specs.ProbeState.{ProbeState}
use Rattle.data_bus.specs.Racks.{views}
use Rattle.f8_machine.specs.RackViews.{HoldsFlat, HoldsPorts, AreCopies}
use Rattle.f8_machine.proofs.PortValues.{bus_port, from_port}
use Rattle.f8_machine.proofs.Places.{named_place}
use Rattle.f8_machine.proofs.Values.{Values, memory_along, memory_after-with_opcode, from_flat}
use Rattle.f8_machine.specs.Refinement.{AreAddresses, RackStands}
use Rattle.f8_machine.proofs.Bounds.{GetsBytes}
use Rattle.f8_machine.specs.RequestsHeld.{IsInTime}
use Rattle.f8_machine.proofs.Along.{Aim, Along, history_with, acknowledged_along}
use Rattle.f8_machine.proofs.Rows.{has_put, puts_of, clocks_with, memory_goes, places_follow, places_small, values_of}
use Rattle.f8_machine.proofs.Rows.{port_values_of, writes_of}

-- ---- an instruction

-- where an instruction leads to
abbrev pub instruction_aim : Op → Position → Aim
instruction_aim op x = record {
  fault = instruction_fault op x;
  course = instruction_course op x;
  memory = (position_after op x).flat.memory;
  writes = with_write (write_at (position_after op x).flat.state.phi (gets_all_at op x).accumulator
      (bus_port (row_of op) (gets_all_at op x) (seats_of x.copies))) x.flat.state.writes;
  acknowledged = (position_after op x).flat.state.acknowledged;
  phi = (position_after op x).flat.state.phi;
  flow = counters_after (row_of op) (gets_all_at op x);
}

-- the acknowledgements along all steps
acknowledged-goes : (op : Op) (taken : Bool) (chosen : Option ℕ) (phi : ℕ) (marks : List Mark) →
    acknowledged_along chosen phi (steps_before_fetch (row_of op) taken ++ ending_steps (row_of op) chosen) marks
    ≡ with_acknowledged chosen phi marks
acknowledged-goes op taken chosen phi marks = by (row_of op) taken chosen
  where
    by : (row : Row) (taken : Bool) (chosen : Option ℕ) →
        acknowledged_along chosen phi (steps_before_fetch row taken ++ ending_steps row chosen) marks
        ≡ with_acknowledged chosen phi marks
    by Branch true None = refl
    by Branch true (Some socket) = refl
    by Branch false None = refl
    by Branch false (Some socket) = refl
    by BranchIsar true None = refl
    by BranchIsar true (Some socket) = refl
    by BranchIsar false None = refl
    by BranchIsar false (Some socket) = refl
    by row taken None = refl
    by row taken (Some socket) = refl

pub along-starts : (op : Op) (x : Position) (probe : ProbeState) (states : List ChipState) →
    GetsBytes (gets_all_at op x) → (has_put (row_of op) ≡ true → (gets_all_at op x).chosen ≡ None) →
    AreAddresses x.flat.state.flow →
    RackStands fetched probe states x → length x.flat.memory ≡ 65536 →
    Along (gets_all_at op x) x (instruction_aim op x) (steps_with (row_of op) (gets_all_at op x)) probe (views states) []
along-starts op x probe states bytes free addresses rack whole =
    let seats = seats_of x.copies in
    let i = gets_all_at op x in
    let row = row_of op in
    let c = x.flat.state.flow in
    record {
      now = λ second d. fetched d;
      memory = x.flat.memory;
      writes = x.flat.state.writes;
      accesses = accesses_before_fetch row i ++ last_access row i ∷ [];
      places = λ second d. places_follow row i bytes.low second d probe.last;
      moves = λ second d. follows row i bytes.low second d;
      reference = rack.reference;
      copies = rack.copies;
      flat = rack.flat;
      ports = rack.ports;
      whole = whole;
      values = subst (λ (k : Count). Values seats i (steps_with row i) k probe.last x.flat.memory)
          (sym rack.reference)
          (values_of seats row i bytes.low c probe.last x.flat.memory (from_flat op seats x.chain x.flat));
      port_values = port_values_of seats x.flat.state.keys (position_after op x).flat.state.phi row i probe.last
          x.flat.state.writes (from_port op seats x.chain x.flat);
      writes_later = writes_of seats (position_after op x).flat.state.phi row i probe.last x.flat.state.writes;
      small = places_small row i c bytes addresses;
      fault = ap (first_fault c x.copies) (accesses-with_opcode row i.opcode (gets_at op x));
      course = refl;
      later = ap (λ (k : Count). memory_along seats i (steps_with row i) k probe.last x.flat.memory) rack.reference
          ∙ memory_goes seats row i c probe.last x.flat.memory
          ∙ memory_after-with_opcode seats row i.opcode (gets_at op x) c x.flat.memory;
      time = x.flat.state.phi;
      acknowledged = x.flat.state.acknowledged;
      in_time = rack.in_time;
      ends = ap (λ (n : ℕ). x.flat.state.phi + n) (clocks_with op i.taken i.chosen);
      late = puts_of row i.taken i.chosen free;
      accumulator = bytes.accumulator;
      acknowledged_later = acknowledged-goes op i.taken i.chosen (position_after op x).flat.state.phi
          x.flat.state.acknowledged;
    }

-- ---- reset

-- where reset leads to
abbrev pub reset_aim : Position → Aim
reset_aim x = record {
  fault = reset_fault x;
  course = reset_course x;
  memory = x.flat.memory;
  writes = x.flat.state.writes;
  acknowledged = x.flat.state.acknowledged;
  phi = (position_after_reset x).flat.state.phi;
  flow = λ second c. record c { p = 0 };
}

pub reset-starts : (x : Position) (probe : ProbeState) (states : List ChipState) → RackStands unreset probe states x →
    length x.flat.memory ≡ 65536 → Along (reset_gets x.flat.memory) x (reset_aim x) reset_steps probe (views states) []
reset-starts x probe states rack whole = record {
  now = λ second c. unreset c;
  memory = x.flat.memory;
  writes = x.flat.state.writes;
  accesses = reset_access ∷ [];
  places = λ second c. refl;
  moves = λ second c. refl;
  reference = rack.reference;
  copies = rack.copies;
  flat = rack.flat;
  ports = rack.ports;
  whole = whole;
  values = (tt, (tt, (refl, tt)));
  port_values = (tt, (tt, (tt, tt)));
  writes_later = refl;
  small = (λ read. omega arith, tt);
  fault = refl;
  course = refl;
  later = refl;
  time = x.flat.state.phi;
  acknowledged = x.flat.state.acknowledged;
  in_time = rack.in_time;
  ends = refl;
  late = refl;
  accumulator = omega arith;
  acknowledged_later = refl;
}

-- ---- the end

-- all steps are served: the counters and the memory are those that the steps lead to
pub record Ended (x : Position) (aim : Aim) (probe : ProbeState) (vs : List ChipView)
    (so_far : List TracedStep) : Type 0 where
  pub now : Bool → Flow → Count
  pub moves : (second : Bool) (c : Flow) → now second c ≡ fetched (aim.flow second c)
  pub reference : probe.count ≡ fetched (aim.flow true x.flat.state.flow)
  pub copies : AreCopies now probe.last x.copies vs
  pub flat : HoldsFlat aim.memory vs
  pub ports : HoldsPorts x.flat.state.keys aim.writes vs
  pub in_time : IsInTime aim.phi (history_with x aim.writes aim.acknowledged) vs
  pub fault : aim.fault ≡ None
  pub course : aim.course ≡ record { steps = so_far; fault = None }

ended_by : (i : Inputs) (x : Position) (aim : Aim) (probe : ProbeState) (vs : List ChipView) (so_far : List TracedStep)
    (left : Along i x aim [] probe vs so_far) (accesses : List Access) → left.accesses ≡ accesses →
    Ended x aim probe vs so_far
ended_by i x aim probe vs so_far left [] none =
    let time : left.time ≡ aim.phi = (let all = left.ends in omega (arith, all)) in
    record {
      now = left.now;
      moves = left.moves;
      reference = left.reference ∙ left.moves true x.flat.state.flow;
      copies = left.copies;
      flat = subst (λ memory. HoldsFlat memory vs) left.later left.flat;
      ports = subst (λ writes. HoldsPorts x.flat.state.keys writes vs) left.writes_later left.ports;
      in_time = subst (λ (n : ℕ). IsInTime n (history_with x aim.writes aim.acknowledged) vs) time
          (subst (λ (ws : List PortWrite). IsInTime left.time (history_with x ws aim.acknowledged) vs) left.writes_later
          (subst (λ (ms : List Mark). IsInTime left.time (history_with x left.writes ms) vs) left.acknowledged_later
          left.in_time));
      fault = sym left.fault ∙ ap (λ (l : List Access). first_fault x.flat.state.flow x.copies l) none;
      course = sym left.course ∙ ap (λ (l : List TracedStep). record { steps = l; fault = None })
          (append-nil so_far);
    }
ended_by i x aim probe vs so_far left (a ∷ later) some =
    let none : [] ≡ map (named_place true x.flat.state.flow) (a ∷ later) =
    left.places true x.flat.state.flow ∙ ap (map (named_place true x.flat.state.flow)) some in
    cc

pub along-ends : (i : Inputs) (x : Position) (aim : Aim) (probe : ProbeState) (vs : List ChipView)
    (so_far : List TracedStep) → Along i x aim [] probe vs so_far → Ended x aim probe vs so_far
along-ends i x aim probe vs so_far left = ended_by i x aim probe vs so_far left left.accesses refl
