-- An instruction of a machine, from the position that it stands for to the next one.
use Rattle.std.proofs.Common.{◌≡◌, ℕ, ◌+◌, ◌-◌, ◌%◌, ◌<◌, ◌≤◌, Bool, true, false, List, [], ◌∷◌, map, length, Option, Some, None}
use Rattle.std.proofs.Common.{refl, sym, ap, ◌∙◌, subst, arith}
use Rattle.std.specs.Prelude.{IfSome, IsSome, sum_by, if◌then◌else◌, slice_index, slice_set}
use Rattle.f8_spec.specs.BusArbitration.{Seat}
use Rattle.f8_spec.specs.ChipState.{ChipState}
use Rattle.f8_spec.specs.Instructions.{decoded, row_of, is_shielding, interrupt_clocks, step_clocks}
use Rattle.f8_spec.specs.declared.instructions.Op.{Op}
use Rattle.f8_spec.specs.declared.instructions.Op.TheVariants.{Outs}
use Rattle.f8_spec.specs.declared.instructions.Row.{Row}
use Rattle.f8_spec.specs.declared.instructions.Row.TheVariants.{StoreData}
use Rattle.console_spec.specs.Processor.{Flow, Registers, Inputs, is_taken, result_of, own_inputs, with_write, write_of}
use Rattle.console_spec.specs.Processor.{vectored_by, written_port, write_at, history_of}
use Rattle.console_spec.specs.FlatStep.{clocks_by, with_acknowledged}
use Rattle.console_spec.specs.InterruptRequests.{History}
use Rattle.cpu3850.specs.CpuPorts.{PortBytes, put_by, with_latch}
use Rattle.cpu3850.proofs.PortLaws.{own_ports-after_instruction}
use Rattle.f8_machine.proofs.PortEnds.{OwnLatch, port_gets, op_write}
use Rattle.std.proofs.lemmas.List.{get_or-set_same}
use Rattle.f8_ops.proofs.ClockBounds.{most_clocks, most_before_fetch}
use Rattle.std.proofs.lemmas.Bool.{ltb-true}
use Rattle.console_spec.specs.declared.PortWrite.{PortWrite}
use Rattle.cpu3850.specs.OwnWrites.{own_ports, LeaveOwnPorts}
use Rattle.cpu3850.specs.Reaching.{done}
use Rattle.f8_machine.specs.PortWrites.{done_write}
use Rattle.console_spec.specs.CounterCopies.{Copy, fetched, copies_after}
use Rattle.console_spec.specs.FlatMachine.{memory_after}
use Rattle.console_spec.specs.Services.{Fault}
use Rattle.console_spec.specs.BusTrace.{Course}
use Rattle.console_spec.specs.Run.{Position, goes_unless, decided, next, opcode_at, seats_of, instruction_fault}
use Rattle.console_spec.specs.Run.{position_after, course_as, turn_course, gets_at, gets_all_at}
use Rattle.console_spec.proofs.InputLaws.{result_of-with_opcode, counters_after-with_opcode}
use Rattle.cpu3850.specs.declared.steps.Step.{Step}
use Rattle.cpu3850.specs.CpuSteps.{CpuState, AreInRange, planned_as, planned}
use Rattle.cpu3850.specs.Keeping.{KeptRegisters, kept_of, restored, IsRestorable}
use Rattle.probe.specs.ProbeState.{ProbeState}
use Rattle.data_bus.specs.declared.fault.BusFault.{BusFault}
use Rattle.data_bus.specs.declared.index.Index.{Index}
use Rattle.f8_machine.specs.Carrying.{HoldsInstruction, IsCarriedOut, IsCutShort, planned_before_as}
use Rattle.f8_machine.specs.RequestsHeld.{IsSettledBy}
use Rattle.f8_machine.specs.Vectoring.{clocks_of_plan}
use Rattle.f8_machine.specs.Faults.{fault_of}
use Rattle.f8_machine.specs.MachineState.{MachineState, flow_before_fetch, outcome_again, steps_in}
use Rattle.f8_machine.specs.Refinement.{AreAddresses, IsMemory, IsSettled, Represents, RunsTo, IsDone, IsFaulted}
use Rattle.f8_machine.specs.Rounds.{heard_of}
use Rattle.f8_machine.specs.declared.heard.Heard.{Heard}
use Rattle.f8_machine.specs.declared.outcome.Mode.TheVariants.{Running, Stopped}
use Rattle.f8_machine.specs.declared.outcome.StoppedBy.{StoppedBy}
use Rattle.f8_machine.specs.declared.outcome.StoppedBy.TheVariants.{Fault as ByFault, Reserved as ByOpcode}
use Rattle.f8_machine.proofs.Bounds.{GetsBytes, gets_bytes}
use Rattle.f8_machine.proofs.Rows.{clocks_before_are, clocks_listed, counters_small}
use Rattle.f8_machine.proofs.Carried.{before_planned, taken-gets}
use Rattle.f8_machine.proofs.Running.{runs_with}
use Rattle.f8_machine.proofs.Settling.{settled_acknowledged, settled_later, settled_written}
use Rattle.f8_machine.proofs.Stores.{stored_long, stored_bytes}

-- ---- the opcode

pub some_of : (found : Option Op) → IsSome found → (op : Op) × (found ≡ Some op)
some_of None some = cc
some_of (Some op) some = (op, refl)

-- the next turn by the opcode at the next address
pub turn_with : (x : Position) (code : ℕ) (found : Option Op) → code ≡ opcode_at x → decoded code ≡ found →
    next x ≡ decided (λ op. goes_unless (instruction_fault op x) (position_after op x)) x.flat.state.flow.p code found
turn_with x code found opcode held =
    ap (λ (k : ℕ). decided (λ op. goes_unless (instruction_fault op x) (position_after op x)) x.flat.state.flow.p k
    (decoded k)) (sym opcode)
    ∙ ap (λ (o : Option Op). decided (λ op. goes_unless (instruction_fault op x) (position_after op x))
    x.flat.state.flow.p code o) held

course_with : (x : Position) (code : ℕ) (found : Option Op) → code ≡ opcode_at x → decoded code ≡ found →
    turn_course x ≡ course_as x found
course_with x code found opcode held =
    ap (λ (k : ℕ). course_as x (decoded k)) (sym opcode)
    ∙ ap (λ (o : Option Op). course_as x o) held

-- ---- clocks, counters and memory

-- the clocks of the steps that are planned, with the interrupt at their end
pub clocks_planned : (cpu : CpuState) (op : Op) (chosen : Option ℕ) → decoded cpu.opcode ≡ Some op →
    clocks_of_plan chosen (planned cpu) ≡ clocks_by chosen op (is_taken op cpu.registers)
clocks_planned cpu op None held =
    ap (λ (found : Option Op). sum_by (λ (step : Step). step_clocks step.long) (planned_as found cpu.registers)) held
    ∙ clocks_listed (row_of op) (is_taken op cpu.registers)
clocks_planned cpu op (Some socket) held =
    ap (λ (l : List Step). sum_by (λ (step : Step). step_clocks step.long) l + interrupt_clocks) (before_planned cpu)
    ∙ ap (λ (found : Option Op). sum_by (λ (step : Step). step_clocks step.long)
    (planned_before_as found cpu.registers) + interrupt_clocks) held
    ∙ ap (λ (n : ℕ). n + interrupt_clocks) (clocks_before_are (row_of op) (is_taken op cpu.registers))

-- an instruction takes 26 Φ at most, and with an interrupt at its end 46
pub few_clocks : (op : Op) (taken : Bool) (chosen : Option ℕ) → IfSome chosen (λ socket. is_shielding op ≡ false) →
    clocks_by chosen op taken ≤ 46
few_clocks op taken None unshielded = let few = most_clocks op taken in omega (arith, few)
few_clocks op taken (Some socket) unshielded = let few = most_before_fetch op taken unshielded in omega (arith, few)

-- the counters, from the probe's
pub flow_before_fetch-fetched : (c : Flow) → AreAddresses c → flow_before_fetch (fetched c) ≡ c
flow_before_fetch-fetched c small =
    let back : ((c.p + 1) % 65536 + 65535) % 65536 ≡ c.p = (let p : c.p < 65536 = small.p in omega arith) in
    ap (λ (n : ℕ). record c { p = n }) back

stored_memory : (row : Row) (seats : List Seat) (i : Inputs) (c : Flow) (memory : List ℕ) → i.accumulator < 256 →
    IsMemory memory → IsMemory (memory_after row seats i c memory)
stored_memory StoreData seats i c memory small is = record {
  whole = stored_long seats c.d0 i.accumulator memory ∙ is.whole;
  bytes = stored_bytes seats c.d0 i.accumulator memory small is.bytes;
}
stored_memory row seats i c memory small is = is

-- ---- an instruction that is done

seats_after : (row : Row) (i : Inputs) (cs : List Copy) → seats_of (copies_after row i cs) ≡ seats_of cs
seats_after row i [] = refl
seats_after row i (c ∷ cs) = ap (λ (ss : List Seat). c.seat ∷ ss) (seats_after row i cs)

own_accumulator : (op : Op) (x : Position) → (gets_all_at op x).accumulator ≡ x.flat.state.registers.accumulator
unfolding own_inputs
own_accumulator op x = refl

-- the ports of the processor's own are the flat machine's
own_done : (op : Op) (x : Position) (start cpu : CpuState) → start.ports ≡ own_ports x.flat.state →
    LeaveOwnPorts (seats_of x.copies) →
    cpu.ports ≡ (done op (gets_all_at op x) start).ports →
    cpu.ports ≡ own_ports (position_after op x).flat.state
own_done op x start cpu own free is =
    is
    ∙ ap (λ (n : ℕ). put_by op n start.ports) (own_accumulator op x)
    ∙ ap (put_by op x.flat.state.registers.accumulator) own
    ∙ sym (own_ports-after_instruction op x.flat.memory (seats_of x.copies) x.chain x.flat.state free)

-- `OUTS` of port 0 or 1 leaves the accumulator in its latch
own_latch : (op : Op) (accumulator : ℕ) (p : PortBytes) (latches : List ℕ) →
    latches ≡ (put_by op accumulator p).latches → length p.latches ≡ 2 → OwnLatch op accumulator latches
own_latch (Outs n) accumulator p latches are two = λ own.
    let small : n < length p.latches = omega (arith, ltb-true n 2 own, two) in
    let put : latches ≡ slice_set p.latches n accumulator =
    are ∙ ap (λ b. (if b then with_latch n accumulator p else p).latches) own in
    ap (λ (l : List ℕ). slice_index l n) put ∙ get_or-set_same p.latches n accumulator 0 small
own_latch op accumulator p latches are two = tt

-- the write that is told, by the processor and the record of the machine
pub write_as_told : (told : Option PortWrite) (found : Option Op) (op : Op) (phi : ℕ) (latches own : List ℕ)
    (steps steps_told : List Heard) →
    told ≡ done_write found phi latches steps → found ≡ Some op → latches ≡ own → steps ≡ steps_told →
    told ≡ done_write (Some op) phi own steps_told
write_as_told told found op phi latches own steps steps_told e held same same_steps =
    e ∙ ap (λ (o : Option Op). done_write o phi latches steps) held
    ∙ ap (λ (l : List ℕ). done_write (Some op) phi l steps) same ∙ ap (done_write (Some op) phi own) same_steps

-- the write that is told is the flat machine's
written_done : (op : Op) (x : Position) (start cpu : CpuState) (steps : List Heard) (chosen : Option ℕ)
    (wrote : Option PortWrite) (phi : ℕ) → phi ≡ (position_after op x).flat.state.phi → start.ports ≡ own_ports x.flat.state →
    {probe : ProbeState} {news : List ChipState} → IsCarriedOut start cpu probe news steps chosen op x →
    wrote ≡ done_write (Some op) phi cpu.ports.latches steps →
    (position_after op x).flat.state.writes ≡ with_write wrote x.flat.state.writes
written_done op x start cpu steps chosen wrote phi spent own carried told =
    let seats = seats_of x.copies in
    let i = gets_all_at op x in
    let latch : OwnLatch op i.accumulator cpu.ports.latches =
    own_latch op i.accumulator start.ports cpu.ports.latches (ap (λ (k : CpuState). k.ports.latches) carried.processor)
    (ap (λ (p : PortBytes). length p.latches) own) in
    ap (λ (o : Option PortWrite). with_write o x.flat.state.writes) (sym (told
    ∙ ap (done_write (Some op) phi cpu.ports.latches) carried.recorded
    ∙ op_write op i x.flat.state.flow x.copies phi cpu.ports.latches carried.so_far
    (port_gets op seats x.chain x.flat) latch carried.trace
    ∙ ap (write_of op i seats) spent))

pub holds_of : (m : MachineState) (states : List ChipState) (op : Op) (x : Position) → decoded m.cpu.opcode ≡ Some op →
    m.cpu.opcode < 256 → AreInRange m.cpu.registers →
    Represents m states x → HoldsInstruction m.cpu m.probe states m.chain op x
holds_of m states op x held small range r = record {
  instruction = held;
  byte = small;
  range = range;
  holds = r.stands.holds;
  chain_is = r.stands.chain;
}

-- the last write and the last acknowledgement lie 4 Φ before the end
settled_write : (written : Option ℕ) (phi byte : ℕ) (h : History) → IsSettledBy (phi - 4) h →
    IsSettledBy (phi - 4) (record h { writes = with_write (write_at phi byte written) h.writes })
settled_write None phi byte h is = is
settled_write (Some port) phi byte h is =
    settled_written (record { phi = phi; port = port; byte = byte }) (phi - 4) h (omega arith) is

settled_mark : (chosen : Option ℕ) (phi : ℕ) (h : History) → IsSettledBy (phi - 4) h →
    IsSettledBy (phi - 4) (record h { acknowledged = with_acknowledged chosen phi h.acknowledged })
settled_mark None phi h is = is
settled_mark (Some socket) phi h is = settled_acknowledged socket (phi - 4) (phi - 4) h (omega arith) is

settled_done : (op : Op) (x : Position) → IsSettled x.flat.state → IsSettled (position_after op x).flat.state
settled_done op x is =
    let phi = (position_after op x).flat.state.phi in
    let begun = is.begun in
    record {
      begun = omega arith;
      back = settled_mark (gets_at op x).chosen phi _
          (settled_write (written_port op (gets_at op x).operand (seats_of x.copies)) phi (gets_at op x).accumulator _
          (settled_later (x.flat.state.phi - 4) (phi - 4) (history_of x.flat.state) (omega arith) is.back));
    }

module _ (m : MachineState) (states news : List ChipState) (op : Op) (x : Position)
    (held : decoded m.cpu.opcode ≡ Some op) (r : Represents m states x) where
  pub done_of : (cpu : CpuState) (probe : ProbeState) (known : Index) (flow : Flow) (clocks : ℕ) (wrote : Option PortWrite)
      (steps : List Heard) (chosen : Option ℕ) → AreInRange m.cpu.registers →
      IsCarriedOut m.cpu cpu probe news steps chosen op x → flow ≡ flow_before_fetch probe.count →
      clocks ≡ clocks_by chosen op (is_taken op m.cpu.registers) →
      wrote ≡ done_write (Some op) (m.phi + clocks) cpu.ports.latches steps →
      IsDone (record m { probe = probe; index = known; cpu = cpu; flow = flow; phi = m.phi + clocks }) news (next x)
      (turn_course x) x.flat.state.writes wrote steps
  done_of cpu probe known flow clocks wrote steps chosen range carried moved spent told =
      let there = r.stands.holds in
      let seats = seats_of x.copies in
      let i = gets_all_at op x in
      let y = position_after op x in
      let registers_in_range : AreInRange x.flat.state.registers = subst AreInRange there.registers range in
      let bytes : GetsBytes i = gets_bytes op seats x.chain x.flat registers_in_range there.memory.bytes in
      let small : AreAddresses y.flat.state.flow =
      subst AreAddresses (counters_after-with_opcode (row_of op) i.opcode (gets_at op x) true x.flat.state.flow)
      (counters_small (row_of op) i true x.flat.state.flow bytes there.addresses) in
      let same_flow : flow ≡ y.flat.state.flow =
      moved ∙ ap flow_before_fetch carried.rack.reference ∙ flow_before_fetch-fetched y.flat.state.flow small in
      let same_registers : cpu.registers ≡ y.flat.state.registers =
      ap (λ (k : CpuState). k.registers) carried.processor
      ∙ ap (λ (o : Option ℕ). vectored_by o (result_of op i m.cpu.registers)) carried.chosen_is
      ∙ ap (λ (regs : Registers). vectored_by i.chosen (result_of op i regs)) there.registers
      ∙ ap (vectored_by i.chosen) (result_of-with_opcode op i.opcode (gets_at op x) x.flat.state.registers) in
      let same_clocks : m.phi + clocks ≡ y.flat.state.phi =
      ap (λ (n : ℕ). n + clocks) r.stands.phi
      ∙ ap (λ (n : ℕ). x.flat.state.phi + n) (spent
      ∙ ap (λ (o : Option ℕ). clocks_by o op (is_taken op m.cpu.registers)) carried.chosen_is
      ∙ ap (λ (regs : Registers). clocks_by i.chosen op (is_taken op regs)) there.registers
      ∙ ap (clocks_by i.chosen op) (sym (taken-gets op x))) in
      let running : m.mode ≡ Running = runs_with x m.mode op (ap decoded (sym r.opcode) ∙ held) r.mode in
      let trace = course_with x m.cpu.opcode (Some op) r.opcode held ∙ carried.trace in
      record {
        after = y;
        turns = turn_with x m.cpu.opcode (Some op) r.opcode held
            ∙ ap (λ (f : Option Fault). goes_unless f y) carried.served;
        represents = record {
          stands = record {
            holds = record {
              registers = same_registers;
              own = own_done op x m.cpu cpu there.own there.free (ap (λ (k : CpuState). k.ports) carried.processor);
              rack = carried.rack;
              free = subst LeaveOwnPorts (sym (seats_after (row_of op) (gets_at op x) x.copies)) there.free;
              memory = stored_memory (row_of op) seats
                  (gets_at op x) x.flat.state.flow x.flat.memory bytes.accumulator there.memory;
              addresses = small;
            };
            flow = same_flow;
            phi = same_clocks;
            chain = r.stands.chain;
            keys = r.stands.keys;
          };
          settled = settled_done op x r.settled;
          opcode = ap (λ (k : CpuState). k.opcode) carried.processor;
          mode = subst (RunsTo y) (sym running) tt;
        };
        running = running;
        written = written_done op x m.cpu cpu steps chosen wrote (m.phi + clocks) same_clocks there.own carried told;
        trace = trace ∙ ap (λ (c : Course). record { steps = c.steps; fault = None }) (sym trace);
        recorded = carried.recorded ∙ ap (λ (c : Course). map heard_of c.steps) (sym trace);
      }

  -- ---- and one that is not

  pub faulted_of : (after : MachineState) (fault : BusFault) (long : Bool) (steps : List Heard) →
      IsCutShort steps fault long op x →
      after ≡ record m { probe = after.probe; index = after.index; mode = Stopped (ByFault fault long) } →
      IsFaulted m after (next x) (turn_course x) fault long steps
  faulted_of after fault long steps cut kept =
      let trace = course_with x m.cpu.opcode (Some op) r.opcode held ∙ cut.trace in
      record {
        turns = turn_with x m.cpu.opcode (Some op) r.opcode held
            ∙ ap (λ (f : Option Fault). goes_unless f (position_after op x)) cut.unserved;
        trace = trace ∙ ap (λ (c : Course). record { steps = c.steps; fault = Some (fault_of fault, long) })
            (sym trace);
        recorded = cut.recorded ∙ ap (λ (c : Course). map heard_of c.steps) (sym trace);
        kept = kept;
      }

-- ---- the same of a machine whose state is read before it is changed

pub done_from : (m k : MachineState) → k ≡ m → (states news : List ChipState) (op : Op) (x : Position) →
    decoded k.cpu.opcode ≡ Some op → Represents m states x →
    (cpu : CpuState) (probe : ProbeState) (known : Index) (flow : Flow) (clocks : ℕ) (wrote : Option PortWrite)
    (steps : List Heard) (chosen : Option ℕ) → k.cpu.opcode < 256 → AreInRange k.cpu.registers →
    (HoldsInstruction k.cpu k.probe states k.chain op x → IsCarriedOut k.cpu cpu probe news steps chosen op x) →
    flow ≡ flow_before_fetch probe.count → clocks ≡ clocks_by chosen op (is_taken op k.cpu.registers) →
    wrote ≡ done_write (Some op) (k.phi + clocks) cpu.ports.latches steps →
    IsDone (record k { probe = probe; index = known; cpu = cpu; flow = flow; phi = k.phi + clocks }) news (next x)
    (turn_course x) x.flat.state.writes wrote steps
done_from m k same states news op x held r cpu probe known flow clocks wrote steps chosen small range carried moved
    spent told =
    let there : Represents k states x = subst (λ (y : MachineState). Represents y states x) (sym same) r in
    done_of k states news op x held there cpu probe known flow clocks wrote steps chosen range
    (carried (holds_of k states op x held small range there)) moved spent told

-- what was kept is put back
pub restored_same : (start cpu now : CpuState) (kept : KeptRegisters) → kept ≡ kept_of start → now ≡ restored kept cpu →
    IsRestorable start cpu → now ≡ start
restored_same start cpu now kept kept_is now_is restorable =
    now_is ∙ ap (λ (k : KeptRegisters). restored k cpu) kept_is ∙ restorable

pub faulted_from : (m k : MachineState) → k ≡ m → (states : List ChipState) (op : Op) (x : Position) →
    decoded k.cpu.opcode ≡ Some op → Represents m states x →
    (cpu now : CpuState) (probe : ProbeState) (known : Index) (kept : KeptRegisters) (fault : BusFault)
    (why : StoppedBy) (long : Bool) (steps : List Heard) → k.cpu.opcode < 256 → AreInRange k.cpu.registers →
    (HoldsInstruction k.cpu k.probe states k.chain op x → IsCutShort steps fault long op x) → kept ≡ kept_of k.cpu →
    now ≡ restored kept cpu → IsRestorable k.cpu cpu → why ≡ ByFault fault long →
    IsFaulted m (record k { probe = probe; index = known; cpu = now; mode = Stopped why }) (next x) (turn_course x) fault long steps
faulted_from m k same states op x held r cpu now probe known kept fault why long steps small range cut kept_is now_is
    restorable stopped =
    let there : Represents k states x = subst (λ (y : MachineState). Represents y states x) (sym same) r in
    let after : MachineState = record k { probe = probe; index = known; cpu = now; mode = Stopped why } in
    let put_back : after ≡ record k { probe = probe; index = known; mode = Stopped (ByFault fault long) } =
    ap (λ (c : CpuState). record k { probe = probe; index = known; cpu = c; mode = Stopped why })
    (restored_same k.cpu cpu now kept kept_is now_is restorable)
    ∙ ap (λ (h : StoppedBy). record k { probe = probe; index = known; mode = Stopped h }) stopped in
    subst (λ (y : MachineState). IsFaulted y after (next x) (turn_course x) fault long steps) same
    (faulted_of k states states op x held there after fault long steps
    (cut (holds_of k states op x held small range there)) put_back)

-- a stopped machine tells no step
pub no_steps : (why : StoppedBy) → steps_in (outcome_again why) ≡ []
no_steps (ByFault fault long) = refl
no_steps (ByOpcode at code) = refl
