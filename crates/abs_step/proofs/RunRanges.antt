-- In a run everything stays in its range, the bytes that stay are kept, and so are the chips.
use Rattle.std.proofs.Common.{◌≡◌, ℕ, ◌<◌, Bool, true, false, List, [], ◌∷◌, refl, ap, arith}
use Rattle.std.specs.Prelude.{Option, Some, None, slice_set, if◌then◌else◌, ◌==◌, nat_lt}
use Rattle.std.specs.List.{AllByRecursion}
use Rattle.std.proofs.lemmas.List.{get_or-set_other}
use Rattle.f8_spec.specs.Words.{places_on, word}
use Rattle.f8_spec.specs.ChipState.{has_second_counter}
use Rattle.f8_spec.specs.Instructions.{InRange, row_of}
use Rattle.f8_spec.specs.BusArbitration.{Seat}
use Rattle.f8_spec.specs.declared.instructions.Op.{Op}
use Rattle.f8_spec.specs.declared.instructions.Op.TheVariants.{In, Ins}
use Rattle.f8_spec.specs.declared.instructions.Row.{Row}
use Rattle.f8_spec.specs.declared.instructions.Row.TheVariants.{StoreData}
use Rattle.console_spec.specs.AddressSpace.{byte_at}
use Rattle.console_spec.specs.Writes.{latch_of, port_value, chip_port_byte, readers}
use Rattle.console_spec.specs.FlatMemory.{sort_of, is_ram_sort, stored_at}
use Rattle.console_spec.specs.FlatMachine.{memory_after}
use Rattle.console_spec.specs.Processor.{Flow, Inputs, Registers, State, interrupted_by, own_inputs, read_port, vectored_by}
use Rattle.console_spec.specs.Processor.{write_at, with_write, written_port}
use Rattle.console_spec.specs.CounterCopies.{Copy, copy_after, copies_after}
use Rattle.console_spec.specs.Run.{Position, seats_of, gets_at, position_after}
use Rattle.console_spec.specs.declared.PortWrite.{PortWrite}
use Rattle.console_spec.specs.FreeRuns.{AreBytes, HasBytes, AreAddresses, IsInRange}
use Rattle.abs_step.proofs.Members.{all_map, all_mapped}
use Rattle.abs_step.proofs.Ranges.{GetsBytes, set_memory, or_small, result_small, flow_small}

-- ---- ports

latch_small : (port : ℕ) (ws : List PortWrite) → AllByRecursion (λ (w : PortWrite). w.byte < 256) ws → latch_of port ws < 256
latch_small port [] h = omega arith
latch_small port (w ∷ ws) h = by (w.port == port) (latch_small port ws h.1)
  where
    by : (b : Bool) → latch_of port ws < 256 → (if b then w.byte else latch_of port ws) < 256
    by true rest = h.0
    by false rest = rest

value_small : (port : ℕ) (s : State) → AreBytes s.keys → AllByRecursion (λ (w : PortWrite). w.byte < 256) s.writes →
    port_value port s.keys s.writes < 256
value_small port s keys writes = or_small _ _ (latch_small port s.writes writes) (keys port)

chip_small : (port : ℕ) (seats : List Seat) (s : State) → AreBytes s.keys → AllByRecursion (λ (w : PortWrite). w.byte < 256) s.writes →
    chip_port_byte port seats s.keys s.writes < 256
chip_small port seats s keys writes = by (readers port seats == 1)
  where
    by : (b : Bool) → (if b then port_value port s.keys s.writes else 255) < 256
    by true = value_small port s keys writes
    by false = omega arith

port_small : (op : Op) (operand : ℕ) (seats : List Seat) (s : State) → AreBytes s.keys →
    AllByRecursion (λ (w : PortWrite). w.byte < 256) s.writes →
    read_port op operand seats s < 256
port_small In operand seats s keys writes = chip_small operand seats s keys writes
port_small (Ins n) operand seats s keys writes = by (nat_lt n 2)
  where
    by : (b : Bool) → (if b then port_value n s.keys s.writes else chip_port_byte n seats s.keys s.writes) < 256
    by true = value_small n s keys writes
    by false = chip_small n seats s keys writes
port_small op operand seats s keys writes = omega arith

-- ---- what an instruction gets

gets_bytes : (op : Op) (here : Position) → IsInRange here → GetsBytes (gets_at op here)
unfolding own_inputs
gets_bytes op here h =
    let d0 = h.counters.d0 in
    let p1 = h.counters.p1 in
    record {
      operand = h.memory (places_on here.flat.state.flow.p 1);
      second = h.memory (places_on here.flat.state.flow.p 2);
      data_byte = h.memory here.flat.state.flow.d0;
      data_high = omega arith;
      data_low = omega arith;
      stack_high = omega arith;
      stack_low = omega arith;
      k_high = h.registers.scratchpad 12;
      k_low = h.registers.scratchpad 13;
      q_high = h.registers.scratchpad 14;
      q_low = h.registers.scratchpad 15;
      h_high = h.registers.scratchpad 10;
      h_low = h.registers.scratchpad 11;
      port_byte = port_small op (byte_at here.flat.memory (places_on here.flat.state.flow.p 1)) (seats_of here.copies) here.flat.state
          h.keys h.writes;
    }

gets_accumulator : (op : Op) (here : Position) → (gets_at op here).accumulator ≡ here.flat.state.registers.accumulator
unfolding own_inputs
gets_accumulator op here = refl

-- ---- writes and memory

writes_small : (port : Option ℕ) (phi byte : ℕ) (ws : List PortWrite) → byte < 256 → AllByRecursion (λ (w : PortWrite). w.byte < 256) ws →
    AllByRecursion (λ (w : PortWrite). w.byte < 256) (with_write (write_at phi byte port) ws)
writes_small None phi byte ws small h = h
writes_small (Some port) phi byte ws small h = (small, h)

stored_small : (seats : List Seat) (at byte : ℕ) (memory : List ℕ) → byte < 256 → ((a : ℕ) → byte_at memory a < 256) →
    (a : ℕ) → byte_at (stored_at seats at byte memory) a < 256
stored_small seats at byte memory small h = by (is_ram_sort (sort_of seats at))
  where
    by : (b : Bool) → (a : ℕ) → byte_at (if b then slice_set memory at byte else memory) a < 256
    by true = set_memory memory at byte h small
    by false = h

memory_small : (row : Row) (seats : List Seat) (i : Inputs) (c : Flow) (memory : List ℕ) → i.accumulator < 256 →
    ((a : ℕ) → byte_at memory a < 256) → (a : ℕ) → byte_at (memory_after row seats i c memory) a < 256
memory_small StoreData seats i c memory small h = stored_small seats c.d0 i.accumulator memory small h
memory_small row seats i c memory small h = h

-- a store at RAM leaves what isn't RAM
stored_keeps : (seats : List Seat) (at byte a : ℕ) (memory : List ℕ) → is_ram_sort (sort_of seats a) ≡ false →
    byte_at (stored_at seats at byte memory) a ≡ byte_at memory a
stored_keeps seats at byte a memory stays = by (is_ram_sort (sort_of seats at)) refl
  where
    by : (b : Bool) → is_ram_sort (sort_of seats at) ≡ b → byte_at (if b then slice_set memory at byte else memory) a ≡ byte_at memory a
    by true ram = get_or-set_other memory at a byte 255 (λ (same : a ≡ at). absurd (cc))
    by false ram = refl

pub memory_keeps : (row : Row) (seats : List Seat) (i : Inputs) (c : Flow) (a : ℕ) (memory : List ℕ) →
    is_ram_sort (sort_of seats a) ≡ false →
    byte_at (memory_after row seats i c memory) a ≡ byte_at memory a
memory_keeps StoreData seats i c a memory stays = stored_keeps seats c.d0 i.accumulator a memory stays
memory_keeps row seats i c a memory stays = refl

-- ---- an instruction, with the interrupt at its end

vectored_bytes : (chosen : Option ℕ) (m : Registers) → HasBytes m → HasBytes (vectored_by chosen m)
vectored_bytes None m h = h
vectored_bytes (Some socket) m h =
    record { accumulator = h.accumulator; isar = h.isar; size = h.size; scratchpad = h.scratchpad }

interrupted_small : (chosen : Option ℕ) (vector : ℕ) (c : Flow) → vector < 65536 → AreAddresses c → AreAddresses (interrupted_by chosen vector c)
interrupted_small None vector c small h = h
interrupted_small (Some socket) vector c small h = record { p = small; p1 = h.p; d0 = h.d0; d1 = h.d1 }

pub range_after : (op : Op) (here : Position) → InRange op → IsInRange here →
    IsInRange (position_after op here)
range_after op here in_range h =
    let i = gets_at op here in
    let gets = gets_bytes op here h in
    let accumulator : i.accumulator < 256 = rw (gets_accumulator op here) h.registers.accumulator in
    let vector = word i.vector_high i.vector_low in
    let small : vector < 65536 = omega arith in
    record {
      registers = vectored_bytes i.chosen _ (result_small op i here.flat.state.registers in_range gets h.registers);
      keys = h.keys;
      writes = writes_small (written_port op i.operand (seats_of here.copies)) _ i.accumulator here.flat.state.writes accumulator h.writes;
      memory = memory_small (row_of op) (seats_of here.copies) i here.flat.state.flow here.flat.memory accumulator h.memory;
      counters = interrupted_small i.chosen vector _ small (flow_small (row_of op) i true here.flat.state.flow gets h.counters);
      copies = all_mapped (copy_after (row_of op) i) _ here.copies (all_map (λ (c : Copy). AreAddresses c.flow) _ here.copies
          (λ c addresses. interrupted_small i.chosen vector _ small
          (flow_small (row_of op) i (has_second_counter c.seat.kind) c.flow gets addresses)) h.copies);
    }

-- the chips stay as they are
pub seats_after : (row : Row) (i : Inputs) (cs : List Copy) → seats_of (copies_after row i cs) ≡ seats_of cs
seats_after row i [] = refl
seats_after row i (c ∷ cs) = ap (λ (ss : List Seat). c.seat ∷ ss) (seats_after row i cs)
