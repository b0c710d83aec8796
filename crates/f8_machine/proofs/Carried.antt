-- How the bus steps of an instruction begin and end, with the processor.
use Rattle.std.proofs.Common.{◌≡◌, ℕ, ◌+◌, ◌-◌, ◌≤◌, Bool, true, false, List, [], ◌∷◌, ◌++◌, map, length, take, Option, Some, None}
use Rattle.std.proofs.Common.{refl, sym, ap, ◌∙◌, subst, arith}
use Rattle.std.specs.Prelude.{◌/◌, ◌%◌, IfSome, slice_get}
use Rattle.std.proofs.lemmas.List.{drop_all, length-map}
use Rattle.f8_spec.specs.BusArbitration.{Seat, seat_of}
use Rattle.f8_spec.specs.ChipState.{ChipState, has_second_counter}
use Rattle.f8_spec.specs.Instructions.{decoded, row_of, is_shielding}
use Rattle.f8_spec.specs.MicroSteps.{Step as MicroStep, Opcode, short_step, last_fetch, steps_before_fetch, steps_of, interrupt_steps}
use Rattle.f8_spec.specs.declared.instructions.Op.{Op}
use Rattle.f8_spec.specs.declared.instructions.Row.{Row}
use Rattle.f8_spec.specs.declared.instructions.Row.TheVariants.{Branch, BranchIsar}
use Rattle.console_spec.specs.BusTrace.{ending_steps, steps_with}
use Rattle.console_spec.specs.InterruptChoice.{vector_of}
use Rattle.console_spec.specs.Processor.{Flow, Registers, Inputs, is_taken, own_inputs, with_write, write_at}
use Rattle.console_spec.specs.declared.PortWrite.{PortWrite}
use Rattle.f8_machine.specs.Choosing.{chosen_by}
use Rattle.f8_machine.specs.Refinement.{RackStands}
use Rattle.console_spec.specs.CounterCopies.{Copy, fetched, copy_after, copies_after}
use Rattle.console_spec.specs.Run.{Position, gets_at, gets_all_at, position_after, seats_of}
use Rattle.console_spec.proofs.InputLaws.{with_opcode, counters_after-with_opcode}
use Rattle.cpu3850.specs.declared.steps.Step.{Step}
use Rattle.cpu3850.specs.CpuSteps.{CpuState, AreInRange, bus_step, last_step, listed, planned_as, planned, taken}
use Rattle.cpu3850.specs.CpuPorts.{PortBytes}
use Rattle.cpu3850.specs.OwnWrites.{own_ports, LeaveOwnPorts}
use Rattle.cpu3850.specs.Reaching.{Reaches, done, from_cpu}
use Rattle.cpu3850.proofs.PlanLaws.{length-steps_of}
use Rattle.cpu3850.proofs.PortLaws.{from_cpu-own_inputs}
use Rattle.cpu3850.proofs.ReachingLaws.{reaches}
use Rattle.probe.specs.ProbeState.{ProbeState}
use Rattle.data_bus.specs.Racks.{NamesAsking, views}
use Rattle.data_bus.specs.declared.fault.BusFault.{BusFault}
use Rattle.f8_machine.specs.BusSteps.{IsServed, IsRefused}
use Rattle.f8_machine.specs.Carrying.{HoldsInstruction, IsCarriedOut, IsCutShort, planned_before_as, planned_before, vectored}
use Rattle.f8_machine.specs.Faults.{fault_of}
use Rattle.f8_machine.specs.RackViews.{AreCopies}
use Rattle.f8_machine.specs.Vectoring.{Acknowledges, fetch_by}
use Rattle.f8_machine.specs.declared.heard.Heard.{Heard}
use Rattle.f8_machine.proofs.Acknowledged.{acknowledged_on_bus}
use Rattle.f8_machine.proofs.Along.{Aim, Along, history_with}
use Rattle.f8_machine.proofs.Bounds.{gets_bytes}
use Rattle.f8_machine.proofs.Choices.{choice_is, no_put, put_shields, shielded}
use Rattle.f8_machine.proofs.Copies.{copies_end, seats_same}
use Rattle.f8_machine.proofs.PortEnds.{port_gets, flat_writes}
use Rattle.f8_machine.proofs.RequestEnds.{in_time_written}
use Rattle.f8_machine.proofs.Remains.{OnBus, Remaining, bus_byte_is, on_bus_more, on_bus_stops}
use Rattle.f8_machine.proofs.Rows.{has_put}
use Rattle.f8_machine.proofs.Starts.{instruction_aim, along-starts, along-ends}

-- ---- what the instruction gets

-- what comes from the processor is there already
from_cpu-gets : (op : Op) (x : Position) (cpu : CpuState) → cpu.registers ≡ x.flat.state.registers →
    cpu.ports ≡ own_ports x.flat.state → from_cpu op cpu (gets_all_at op x) ≡ gets_all_at op x
from_cpu-gets op x cpu registers ports =
    let i = gets_all_at op x in
    ap (λ (m : Registers). from_cpu op (record cpu { registers = m }) i) registers
    ∙ ap (λ (p : PortBytes). from_cpu op (record cpu { registers = x.flat.state.registers; ports = p }) i) ports
    ∙ ap (λ (j : Inputs). record j {
      opcode = i.opcode;
      chosen = i.chosen;
      vector_high = i.vector_high;
      vector_low = i.vector_low;
    }) (from_cpu-own_inputs op x.flat.memory (seats_of x.copies) x.flat.state cpu.opcode)

-- a branch that is taken, by the inputs and by the registers
pub taken-gets : (op : Op) (x : Position) → (gets_all_at op x).taken ≡ is_taken op x.flat.state.registers
unfolding own_inputs
taken-gets op x = refl

copies_after-with_opcode : (row : Row) (code : ℕ) (i : Inputs) (cs : List Copy) →
    copies_after row (with_opcode code i) cs ≡ copies_after row i cs
copies_after-with_opcode row code i [] = refl
copies_after-with_opcode row code i (c ∷ cs) =
    ap (λ (x : Flow). record c { flow = x } ∷ copies_after row (with_opcode code i) cs)
    (counters_after-with_opcode row code i (has_second_counter c.seat.kind) c.flow)
    ∙ ap (λ l. copy_after row i c ∷ l) (copies_after-with_opcode row code i cs)

-- its vector is the one of the chip that is chosen
vector_low_is : (op : Op) (x : Position) (socket : ℕ) → (gets_all_at op x).chosen ≡ Some socket →
    (gets_all_at op x).vector_low ≡ vector_of (Some socket) (seats_of x.copies) x.flat.state.writes % 256
vector_low_is op x socket chosen =
    ap (λ (o : Option ℕ). vector_of o (seats_of x.copies) x.flat.state.writes % 256) chosen

vector_high_is : (op : Op) (x : Position) (socket : ℕ) → (gets_all_at op x).chosen ≡ Some socket →
    (gets_all_at op x).vector_high ≡ vector_of (Some socket) (seats_of x.copies) x.flat.state.writes / 256 % 256
vector_high_is op x socket chosen =
    ap (λ (o : Option ℕ). vector_of o (seats_of x.copies) x.flat.state.writes / 256 % 256) chosen

-- ---- the plan

-- the steps of a plan but the last
before_listed : (op : Op) (branched : Bool) → take (length (listed op branched) - 1) (listed op branched)
    ≡ map bus_step (steps_before_fetch (row_of op) branched)
before_listed op branched = by (row_of op) branched
  where
    by : (row : Row) (branched : Bool) →
        take (length (map bus_step (steps_before_fetch row branched ++ last_fetch row ∷ [])) - 1)
        (map bus_step (steps_before_fetch row branched ++ last_fetch row ∷ []))
        ≡ map bus_step (steps_before_fetch row branched)
    by Branch true = refl
    by Branch false = refl
    by BranchIsar true = refl
    by BranchIsar false = refl
    by row branched = refl

before_as : (found : Option Op) (m : Registers) →
    take (length (planned_as found m) - 1) (planned_as found m) ≡ planned_before_as found m
before_as None m = refl
before_as (Some op) m = before_listed op (is_taken op m)

pub before_planned : (cpu : CpuState) → take (length (planned cpu) - 1) (planned cpu) ≡ planned_before cpu
before_planned cpu = before_as (decoded cpu.opcode) cpu.registers

-- and the last
last_listed : (op : Op) (branched : Bool) → slice_get (listed op branched) (length (listed op branched) - 1)
    ≡ Some (bus_step (last_fetch (row_of op)))
last_listed op branched = by (row_of op) branched
  where
    by : (row : Row) (branched : Bool) →
        slice_get (map bus_step (steps_before_fetch row branched ++ last_fetch row ∷ []))
        (length (map bus_step (steps_before_fetch row branched ++ last_fetch row ∷ [])) - 1)
        ≡ Some (bus_step (last_fetch row))
    by Branch true = refl
    by Branch false = refl
    by BranchIsar true = refl
    by BranchIsar false = refl
    by row branched = refl

pub last_planned : (cpu : CpuState) (op : Op) → decoded cpu.opcode ≡ Some op →
    slice_get (planned cpu) (length (planned cpu) - 1) ≡ Some (bus_step (last_fetch (row_of op)))
last_planned cpu op held =
    ap (λ (found : Option Op). slice_get (planned_as found cpu.registers)
    (length (planned_as found cpu.registers) - 1)) held
    ∙ last_listed op (is_taken op cpu.registers)

-- how many there are
pub length-planned : (cpu : CpuState) (op : Op) → decoded cpu.opcode ≡ Some op →
    length (planned cpu) ≡ last_step (row_of op) + 1
length-planned cpu op held =
    ap (λ (found : Option Op). length (planned_as found cpu.registers)) held
    ∙ length-map (steps_of (row_of op) (is_taken op cpu.registers)) bus_step
    ∙ length-steps_of (row_of op) (is_taken op cpu.registers)

-- ---- the beginning

-- all steps are left
pub remaining_first : (cpu : CpuState) (probe : ProbeState) (states : List ChipState) (chain : List ℕ) (op : Op)
    (x : Position) (plan : List Step) → plan ≡ planned_before cpu → HoldsInstruction cpu probe states chain op x →
    Remaining (row_of op) x (gets_all_at op x) (instruction_aim op x) (done op (gets_all_at op x) cpu) plan 0 cpu probe
    states []
remaining_first cpu probe states chain op x plan is holds =
    let i = gets_all_at op x in
    let row = row_of op in
    let same_taken : i.taken ≡ is_taken op cpu.registers =
    taken-gets op x ∙ ap (is_taken op) (sym holds.holds.registers) in
    let same_inputs : from_cpu op cpu i ≡ i = from_cpu-gets op x cpu holds.holds.registers holds.holds.own in
    let range : AreInRange x.flat.state.registers = subst AreInRange holds.holds.registers holds.range in
    let free : has_put row ≡ true → i.chosen ≡ None =
    λ put. shielded op x (put_shields cpu.opcode op holds.byte holds.instruction put) in
    let start : Along i x (instruction_aim op x) (steps_with row i) probe (views states) [] =
    along-starts op x probe states (gets_bytes op (seats_of x.copies) x.chain x.flat range holds.holds.memory.bytes)
    free holds.holds.addresses holds.holds.rack holds.holds.memory.whole in
    record {
      rest = steps_before_fetch row (is_taken op cpu.registers);
      planned_are = ap (λ (found : Option Op). planned_before_as found cpu.registers) (sym holds.instruction) ∙ sym is;
      bus = record {
        so_far = [];
        recorded = refl;
        along = subst (λ (branched : Bool). Along i x (instruction_aim op x)
            (steps_before_fetch row branched ++ ending_steps row i.chosen) probe (views states) []) same_taken start;
      };
      reaches = subst (λ (j : Inputs). Reaches j 0
          (steps_before_fetch row (is_taken op cpu.registers) ++ last_fetch row ∷ []) cpu (done op j cpu)) same_inputs
          (reaches op i cpu holds.instruction);
    }

-- ---- the last step

-- only the steps at the end are left
pub record AtEnd (row : Row) (x : Position) (i : Inputs) (aim : Aim) (end : CpuState) (index : ℕ) (cpu : CpuState)
    (probe : ProbeState) (states : List ChipState) (steps : List Heard) : Type 0 where
  pub bus : OnBus i x aim (ending_steps row i.chosen) probe states steps
  pub ends : taken index i.opcode cpu ≡ end

at_end_by : (row : Row) (x : Position) (i : Inputs) (aim : Aim) (end : CpuState) (index : ℕ) (cpu : CpuState)
    (probe : ProbeState) (states : List ChipState) (steps : List Heard) (rest : List MicroStep) →
    map bus_step rest ≡ [] → OnBus i x aim (rest ++ ending_steps row i.chosen) probe states steps →
    Reaches i index (rest ++ last_fetch row ∷ []) cpu end → AtEnd row x i aim end index cpu probe states steps
at_end_by row x i aim end index cpu probe states steps [] none bus reaches = record { bus = bus; ends = reaches.1 }
at_end_by row x i aim end index cpu probe states steps (s ∷ rest) none bus reaches = cc

pub remaining_over : (row : Row) (x : Position) (i : Inputs) (aim : Aim) (end : CpuState) (plan : List Step) (index : ℕ)
    (cpu : CpuState) (probe : ProbeState) (states : List ChipState) (steps : List Heard) → length plan ≤ index →
    Remaining row x i aim end plan index cpu probe states steps → AtEnd row x i aim end index cpu probe states steps
remaining_over row x i aim end plan index cpu probe states steps past remaining =
    at_end_by row x i aim end index cpu probe states steps remaining.rest
    (remaining.planned_are ∙ drop_all index plan past) remaining.bus remaining.reaches

-- what is fetched at the end
abbrev pub fetch_step : Option ℕ → Row → MicroStep
fetch_step None row = last_fetch row
fetch_step (Some socket) row = short_step 0x00 Opcode

fetch_of : (chosen : Option ℕ) (row : Row) → fetch_by chosen (bus_step (last_fetch row)) ≡ bus_step (fetch_step chosen row)
fetch_of None row = refl
fetch_of (Some socket) row = refl

module _ (op : Op) (x : Position) (free : has_put (row_of op) ≡ true → (gets_all_at op x).chosen ≡ None) where
  -- where an interrupt is taken no port was written
  unwritten : (socket : ℕ) → (gets_all_at op x).chosen ≡ Some socket → (instruction_aim op x).writes ≡ x.flat.state.writes
  unwritten socket chosen =
      ap (λ (port : Option ℕ). with_write (write_at (position_after op x).flat.state.phi
      (gets_all_at op x).accumulator port) x.flat.state.writes)
      (no_put (row_of op) (gets_all_at op x) (seats_of x.copies) (by (has_put (row_of op)) free))
    where
      by : (put : Bool) → (put ≡ true → (gets_all_at op x).chosen ≡ None) → put ≡ false
      by true none = let is : (gets_all_at op x).chosen ≡ None = none refl in cc
      by false none = refl

  -- the fetch of the next opcode is left, where no interrupt is taken and where one was acknowledged
  fetch_left : (chosen : Option ℕ) → chosen ≡ (gets_all_at op x).chosen → (probe after : ProbeState)
      (states news : List ChipState) (steps now : List Heard) →
      IfSome chosen (λ socket. NamesAsking (Some socket) states) →
      Acknowledges chosen probe after states news steps now →
      OnBus (gets_all_at op x) x (instruction_aim op x) (ending_steps (row_of op) (gets_all_at op x).chosen) probe states
      steps → OnBus (gets_all_at op x) x (instruction_aim op x) (fetch_step chosen (row_of op) ∷ []) after news now
  fetch_left None same probe after states news steps now names same_all left =
      let i = gets_all_at op x in
      let ended : OnBus i x (instruction_aim op x) (ending_steps (row_of op) None) probe states steps =
      subst (λ (o : Option ℕ). OnBus i x (instruction_aim op x) (ending_steps (row_of op) o) probe states steps)
      (sym same) left in
      subst (λ (l : List Heard). OnBus i x (instruction_aim op x) (last_fetch (row_of op) ∷ []) after news l)
      (sym same_all.steps)
      (subst (λ (ss : List ChipState). OnBus i x (instruction_aim op x) (last_fetch (row_of op) ∷ []) after ss steps)
      (sym same_all.states)
      (subst (λ (p : ProbeState). OnBus i x (instruction_aim op x) (last_fetch (row_of op) ∷ []) p states steps)
      (sym same_all.probe) ended))
  fetch_left (Some socket) same probe after states news steps now names acknowledged left =
      let i = gets_all_at op x in
      let ended : OnBus i x (instruction_aim op x) interrupt_steps probe states steps =
      subst (λ (o : Option ℕ). OnBus i x (instruction_aim op x) (ending_steps (row_of op) o) probe states steps)
      (sym same) left in
      let writes : x.flat.state.writes ≡ (instruction_aim op x).writes = sym (unwritten socket (sym same)) in
      acknowledged_on_bus i x (instruction_aim op x) socket (sym same) probe after states news steps now acknowledged
      ended
      (vector_low_is op x socket (sym same)
      ∙ ap (λ (ws : List PortWrite). vector_of (Some socket) (seats_of x.copies) ws % 256) writes)
      (vector_high_is op x socket (sym same)
      ∙ ap (λ (ws : List PortWrite). vector_of (Some socket) (seats_of x.copies) ws / 256 % 256) writes)
      names

  -- ---- the fetch

  -- it is served
  record Fetched (probe : ProbeState) (states : List ChipState) (steps : List Heard) (opcode : ℕ) : Type 0 where
    bus : OnBus (gets_all_at op x) x (instruction_aim op x) [] probe states steps
    opcode_is : opcode ≡ (gets_all_at op x).opcode

  fetch_served : (chosen : Option ℕ) (before after : ProbeState) (olds news : List ChipState)
      (earlier now : List Heard) (opcode : ℕ) →
      IsServed (bus_step (fetch_step chosen (row_of op))) 0 before after olds news earlier now opcode →
      OnBus (gets_all_at op x) x (instruction_aim op x) (fetch_step chosen (row_of op) ∷ []) before olds earlier →
      Fetched after news now opcode
  fetch_served None before after olds news earlier now opcode served left =
      let i = gets_all_at op x in record {
        bus = on_bus_more i x (instruction_aim op x) (last_fetch (row_of op)) [] before olds earlier left refl 0 opcode
            after news now tt served;
        opcode_is = bus_byte_is i x (instruction_aim op x) (last_fetch (row_of op)) [] before olds earlier left refl 0
            opcode after news now tt served;
      }
  fetch_served (Some socket) before after olds news earlier now opcode served left =
      let i = gets_all_at op x in record {
        bus = on_bus_more i x (instruction_aim op x) (short_step 0x00 Opcode) [] before olds earlier left refl 0 opcode
            after news now tt served;
        opcode_is = bus_byte_is i x (instruction_aim op x) (short_step 0x00 Opcode) [] before olds earlier left refl 0
            opcode after news now tt served;
      }

  -- all steps are served
  rack_after : (probe : ProbeState) (states : List ChipState) (steps : List Heard) →
      LeaveOwnPorts (seats_of x.copies) → OnBus (gets_all_at op x) x (instruction_aim op x) [] probe states steps →
      RackStands fetched probe states (position_after op x)
  rack_after probe states steps own bus =
      let i = gets_all_at op x in
      let seats = seats_of x.copies in
      let phi = (position_after op x).flat.state.phi in
      let ended = along-ends i x (instruction_aim op x) probe (views states) bus.so_far bus.along in
      let seated : LeaveOwnPorts (map seat_of (views states)) = subst (λ (ss : List Seat). LeaveOwnPorts ss)
      (sym (seats_same ended.now probe.last x.copies (views states) ended.copies)) own in
      record {
        reference = ended.reference ∙ ap fetched
            (counters_after-with_opcode (row_of op) i.opcode (gets_at op x) true x.flat.state.flow);
        copies = subst (λ cs. AreCopies (λ second c. fetched c) probe.last cs (views states))
            (copies_after-with_opcode (row_of op) i.opcode (gets_at op x) x.copies)
            (copies_end ended.now probe.last (row_of op) i x.copies (views states) ended.moves ended.copies);
        flat = ended.flat;
        ports = flat_writes op i seats phi x.flat.state.keys x.flat.state.writes (views states)
            (port_gets op seats x.chain x.flat) seated ended.ports;
        in_time = in_time_written op i seats phi phi
            (history_with x x.flat.state.writes (instruction_aim op x).acknowledged) (views states)
            (port_gets op seats x.chain x.flat) seated (omega arith) ended.in_time;
      }

-- ---- the end

module _ (start cpu : CpuState) (chain : List ℕ) (op : Op) (x : Position) (index : ℕ)
    (probe mid after : ProbeState) (states mids news : List ChipState) (steps told now : List Heard)
    (chosen : Option ℕ) (fetch last : Step) (starts : ProbeState) (first : List ChipState)
    (holds : HoldsInstruction start starts first chain op x)
    (opcode_held : cpu.opcode ≡ start.opcode) (at_last : index ≡ last_step (row_of op))
    (ended : AtEnd (row_of op) x (gets_all_at op x) (instruction_aim op x) (done op (gets_all_at op x) start) index cpu
    probe states steps)
    (chosen_so : chosen ≡ chosen_by (decoded cpu.opcode) cpu.registers.status.icb states chain)
    (names : IfSome chosen (λ socket. NamesAsking (Some socket) states))
    (acknowledged : Acknowledges chosen probe mid states mids steps told)
    (fetch_is : fetch ≡ fetch_by chosen last) (last_is : last ≡ bus_step (last_fetch (row_of op))) where
  puts_shield : has_put (row_of op) ≡ true → is_shielding op ≡ true
  puts_shield put = put_shields start.opcode op holds.byte holds.instruction put

  free : has_put (row_of op) ≡ true → (gets_all_at op x).chosen ≡ None
  free put = shielded op x (puts_shield put)

  chosen_right : chosen ≡ (gets_all_at op x).chosen
  chosen_right = chosen_so ∙ choice_is op x start cpu probe states chain ended.bus.so_far index ended.bus.along
      puts_shield (ap decoded opcode_held ∙ holds.instruction) at_last holds.holds.registers holds.chain_is ended.ends

  left : OnBus (gets_all_at op x) x (instruction_aim op x) (fetch_step chosen (row_of op) ∷ []) mid mids told
  left = fetch_left op x free chosen chosen_right probe mid states mids steps told names acknowledged ended.bus

  fetch_right : fetch ≡ bus_step (fetch_step chosen (row_of op))
  fetch_right = fetch_is ∙ ap (fetch_by chosen) last_is ∙ fetch_of chosen (row_of op)

  pub carried_out : (opcode : ℕ) (cpu_now : CpuState) →
      IsServed fetch 0 mid after mids news told now opcode → cpu_now ≡ vectored chosen (taken index opcode cpu) →
      IsCarriedOut start cpu_now after news now chosen op x
  carried_out opcode cpu_now served concluded =
      let there = fetch_served op x free chosen mid after mids news told now opcode
      (subst (λ (s : Step). IsServed s 0 mid after mids news told now opcode) fetch_right served) left in
      let finish = along-ends (gets_all_at op x) x (instruction_aim op x) after (views news) there.bus.so_far
      there.bus.along in
      record {
        chosen_is = chosen_right;
        processor = concluded ∙ ap (λ (code : ℕ). vectored chosen (taken index code cpu)) there.opcode_is
            ∙ ap (vectored chosen) ended.ends;
        rack = rack_after op x free after news now holds.holds.free there.bus;
        served = finish.fault;
        so_far = there.bus.so_far;
        recorded = there.bus.recorded;
        trace = finish.course;
      }

  pub cut_short : (fault : BusFault) (long : Bool) → IsRefused fetch fault mid after mids news told now →
      long ≡ fetch.long → IsCutShort now fault long op x
  cut_short fault long refused is =
      let stops = on_bus_stops (gets_all_at op x) x (instruction_aim op x) (fetch_step chosen (row_of op)) [] mid mids
      told left fault after news now
      (subst (λ (s : Step). IsRefused s fault mid after mids news told now) fetch_right refused) in
      record {
        unserved = stops.fault_is;
        so_far = stops.so_far;
        recorded = stops.recorded;
        trace = stops.course_is
            ∙ ap (λ (b : Bool). record { steps = stops.so_far; fault = Some (fault_of fault, b) })
            (sym (is ∙ ap (λ (s : Step). s.long) fetch_right));
      }
