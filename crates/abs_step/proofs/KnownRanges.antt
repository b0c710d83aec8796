-- What is known stays within its range: bytes, digits and addresses. Where all that isn't known is taken as 0, the flat machine's step is
-- one of those that the state stands for, and its results are in range; so is what is known of them.
use Rattle.std.proofs.Common.{◌≡◌, ℕ, zero, suc, ◌+◌, ◌*◌, ◌/◌, ◌%◌, ◌<◌, Bool, true, false, List, [], ◌∷◌, map, refl, ap, ◌∙◌, arith}
use Rattle.std.specs.Prelude.{Option, Some, None, option_map, option_and_then, unwrap_or, slice_index_or}
use Rattle.std.specs.List.{AllZip}
use Rattle.std.specs.Option.{ForSome}
use Rattle.std.proofs.lemmas.List.{length-map}
use Rattle.f8_spec.specs.Flags.{Status}
use Rattle.f8_spec.specs.Words.{places_on, displaced}
use Rattle.f8_spec.specs.Instructions.{decoded, row_of, InRange}
use Rattle.f8_spec.specs.declared.instructions.Op.{Op}
use Rattle.f8_spec.specs.declared.instructions.Row.{Row}
use Rattle.f8_spec.specs.declared.instructions.Row.TheVariants.{DataFromQ, DataFromH, ReadData, StoreData, LoadData, AddData}
use Rattle.console_spec.specs.FreeRuns.{AreBytes, AreAddresses, HasBytes}
use Rattle.console_spec.specs.Processor.{Flow, Registers, Inputs, result_of, flow_after, scratch_byte}
use Rattle.abs_domain.specs.Lattice.{Below}
use Rattle.abs_domain.specs.AbstractState.{AbstractState, KnownStatus, KnownRegisters, KnownCounters, HasScratchpad, RegistersBelow}
use Rattle.abs_domain.specs.declared.points.Point.{Point}
use Rattle.abs_domain.proofs.Orders.{below_trans}
use Rattle.abs_step.specs.RegisterWrites.{known_register}
use Rattle.abs_step.specs.KnownFlow.{KnownInputs, known_counters}
use Rattle.abs_step.specs.MapView.{MapView}
use Rattle.abs_step.specs.Successors.{Invariant, inputs_at, state_after}
use Rattle.abs_step.specs.Concretization.{whole_registers}
use Rattle.abs_step.specs.Safety.{op_at}
use Rattle.abs_step.specs.CartridgeAnalysis.{IsWithinRange, FitsPoint, TellsBytes}
use Rattle.abs_step.proofs.Scratchpads.{register_below}
use Rattle.abs_step.proofs.Exact.{register_whole, results_tell}
use Rattle.abs_step.proofs.InputLaws.{whole_inputs, InputsBelow, used_tells}
use Rattle.abs_step.proofs.CounterLaws.{data_tells}
use Rattle.abs_step.proofs.Opcodes.{decoded_in_range}
use Rattle.abs_step.proofs.Ranges.{GetsBytes, displaced_small, result_small, flow_small}
use Rattle.abs_step.proofs.KnownNumbers.{IsBelow, none_below, some_below, filled, filled_small, known_small, word_below}

-- ---- a part that isn't known is taken as 0, and a bit as clear

abbrev pub set : Option Bool → Bool
set o = unwrap_or o false

filled_below : (o : Option ℕ) → Below (Some (filled o)) o
filled_below None = tt
filled_below (Some x) = refl

set_below : (o : Option Bool) → Below (Some (set o)) o
set_below None = tt
set_below (Some b) = refl

-- ---- registers

abbrev filled_status : KnownStatus → Status
filled_status w = record { sign = set w.sign; carry = set w.carry; zero = set w.zero; overflow = set w.overflow; icb = set w.icb }

abbrev filled_registers : KnownRegisters → Registers
filled_registers k = record {
  accumulator = filled k.accumulator;
  isar = filled k.high * 8 + filled k.low;
  status = filled_status k.status;
  scratchpad = map filled k.scratchpad;
}

high_below : (o : Option ℕ) (low : ℕ) → low < 8 → Below (Some ((filled o * 8 + low) / 8)) o
high_below None low small = tt
high_below (Some high) low small = ap Some (omega arith)

low_below : (high : ℕ) (o : Option ℕ) → ForSome o (λ digit. digit < 8) → Below (Some ((high * 8 + filled o) % 8)) o
low_below high None small = tt
low_below high (Some low) small = let digit = small low refl in ap Some (omega arith)

scratchpad_below : (xs : List (Option ℕ)) → AllZip Below (map Some (map filled xs)) xs
scratchpad_below [] = tt
scratchpad_below (x ∷ xs) = (filled_below x, scratchpad_below xs)

scratchpad_small : (xs : List (Option ℕ)) → ((number : ℕ) → ForSome (slice_index_or xs number None) (λ byte. byte < 256)) →
    AreBytes (map filled xs)
scratchpad_small [] h place = omega arith
scratchpad_small (x ∷ xs) h zero = filled_small 256 x (omega arith) (h 0)
scratchpad_small (x ∷ xs) h (suc place) = scratchpad_small xs (λ number. h (suc number)) place

module _ (s : AbstractState) (pad : HasScratchpad s) (range : IsWithinRange s) where
  registers_filled : RegistersBelow (whole_registers (filled_registers s.registers)) s.registers
  registers_filled =
      let k = s.registers in
      record {
        accumulator = filled_below k.accumulator;
        high = high_below k.high (filled k.low) (filled_small 8 k.low (omega arith) range.low);
        low = low_below (filled k.high) k.low range.low;
        status = record {
          sign = set_below k.status.sign;
          carry = set_below k.status.carry;
          zero = set_below k.status.zero;
          overflow = set_below k.status.overflow;
          icb = set_below k.status.icb;
        };
        scratchpad = scratchpad_below k.scratchpad;
      }

  registers_small : HasBytes (filled_registers s.registers)
  registers_small =
      let k = s.registers in
      let high = filled_small 8 k.high (omega arith) range.high in
      let low = filled_small 8 k.low (omega arith) range.low in
      record {
        accumulator = filled_small 256 k.accumulator (omega arith) range.accumulator;
        isar = omega arith;
        size = length-map k.scratchpad filled ∙ pad;
        scratchpad = scratchpad_small k.scratchpad range.scratchpad;
      }

-- what is known of registers in range
known_registers_small : (m : Registers) (k : KnownRegisters) (number : ℕ) → HasBytes m → RegistersBelow (whole_registers m) k →
    ForSome (known_register number k) (λ byte. byte < 256)
known_registers_small m k number h below =
    known_small 256 (scratch_byte number m) (known_register number k)
    (below_trans (Some (scratch_byte number m)) (known_register number (whole_registers m)) (known_register number k)
    (register_whole number m) (register_below number (whole_registers m) k below)) (h.scratchpad number)

-- ---- what an instruction gets

abbrev pub filled_inputs : KnownInputs → Inputs
filled_inputs i = record {
  taken = set i.taken;
  chosen = None;
  operand = filled i.operand;
  second = filled i.second;
  opcode = 0;
  data_byte = filled i.data_byte;
  data_high = filled i.counter_bytes.high;
  data_low = filled i.counter_bytes.low;
  stack_high = filled i.stack_bytes.high;
  stack_low = filled i.stack_bytes.low;
  accumulator = filled i.accumulator;
  k_high = filled i.k_high;
  k_low = filled i.k_low;
  q_high = filled i.q_high;
  q_low = filled i.q_low;
  h_high = filled i.h_high;
  h_low = filled i.h_low;
  port = 0;
  port_byte = 0;
  vector_high = 0;
  vector_low = 0;
}

inputs_filled : (i : KnownInputs) → InputsBelow (whole_inputs (filled_inputs i)) i
inputs_filled i = record {
  taken = set_below i.taken;
  operand = filled_below i.operand;
  second = filled_below i.second;
  data_byte = filled_below i.data_byte;
  counter_bytes = record { high = filled_below i.counter_bytes.high; low = filled_below i.counter_bytes.low };
  stack_bytes = record { high = filled_below i.stack_bytes.high; low = filled_below i.stack_bytes.low };
  accumulator = filled_below i.accumulator;
  k_high = filled_below i.k_high;
  k_low = filled_below i.k_low;
  q_high = filled_below i.q_high;
  q_low = filled_below i.q_low;
  h_high = filled_below i.h_high;
  h_low = filled_below i.h_low;
}

high_small : (o : Option ℕ) → ForSome o (λ at. at < 65536) → filled (option_map (λ a. a / 256) o) < 256
high_small None h = omega arith
high_small (Some a) h = let small = h a refl in omega arith

low_small : (o : Option ℕ) → filled (option_map (λ a. a % 256) o) < 256
low_small None = omega arith
low_small (Some a) = omega arith

-- bytes that stay are bytes
byte_small : (m : MapView) → TellsBytes m → (at : ℕ) → filled (m.byte at) < 256
byte_small m tells at = filled_small 256 (m.byte at) (omega arith) (λ byte is. tells at byte is)

data_small : (m : MapView) → TellsBytes m → (o : Option ℕ) → filled (option_and_then m.byte o) < 256
data_small m tells None = omega arith
data_small m tells (Some at) = byte_small m tells at

-- ---- the copies of the 3851s

moved_small : (f : ℕ → Option ℕ) (o : Option ℕ) → ((at : ℕ) → IsBelow 65536 (f at)) → IsBelow 65536 (option_and_then f o)
moved_small f None each = none_below 65536
moved_small f (Some at) each = each at

next_small : (at : ℕ) → IsBelow 65536 (Some (places_on at 1))
next_small at = some_below 65536 (places_on at 1) (omega arith)

added_small : (o : Option ℕ) (at : ℕ) → IsBelow 65536 (option_map (displaced at) o)
added_small None at = none_below 65536
added_small (Some byte) at = some_below 65536 (displaced at byte) (displaced_small at byte)

copies_small : (row : Row) (i : KnownInputs) (k : KnownCounters) → GetsBytes (filled_inputs i) → IsBelow 65536 k.c →
    IsBelow 65536 (known_counters row i k).c
copies_small DataFromQ i k g h = word_below i.q_high i.q_low g.q_high g.q_low
copies_small DataFromH i k g h = word_below i.h_high i.h_low g.h_high g.h_low
copies_small LoadData i k g h = word_below i.operand i.second g.operand g.second
copies_small ReadData i k g h = moved_small (λ at. Some (places_on at 1)) k.c next_small
copies_small StoreData i k g h = moved_small (λ at. Some (places_on at 1)) k.c next_small
copies_small AddData i k g h = moved_small (λ at. option_map (displaced at) i.accumulator) k.c (added_small i.accumulator)
copies_small row i k g h = h

module _ (m : MapView) (tells : TellsBytes m) (tracked : List ℕ) (p : Point) (s : AbstractState) (fits : FitsPoint tracked p s) (op : Op)
    (is : op_at m (record { point = p; state = s }) ≡ Some op) where
  abbrev here : Invariant
  here = record { point = p; state = s }

  pub inputs_small : GetsBytes (filled_inputs (inputs_at op m here))
  inputs_small =
      let register : (number : ℕ) → filled (known_register number s.registers) < 256 =
      λ number. filled_small 256 (known_register number s.registers) (omega arith) (fits.range.scratchpad number) in
      record {
        operand = byte_small m tells (places_on p.at 1);
        second = byte_small m tells (places_on p.at 2);
        data_byte = data_small m tells s.counters.d0;
        data_high = high_small s.counters.d0 fits.range.d0;
        data_low = low_small s.counters.d0;
        stack_high = high_small p.ret fits.ret;
        stack_low = low_small p.ret;
        k_high = register 12;
        k_low = register 13;
        q_high = register 14;
        q_low = register 15;
        h_high = register 10;
        h_low = register 11;
        port_byte = omega arith;
      }

  in_range : InRange op
  in_range = by (m.byte p.at) refl is
    where
      by : (o : Option ℕ) → m.byte p.at ≡ o → option_and_then decoded o ≡ Some op → InRange op
      by None told e = absurd (cc)
      by (Some code) told e = decoded_in_range code op (tells p.at code told) e

  -- ---- the state after the instruction

  result_tells : RegistersBelow (whole_registers (result_of op (filled_inputs (inputs_at op m here)) (filled_registers s.registers)))
      (state_after op m here).registers
  result_tells =
      let i = inputs_at op m here in
      let below = inputs_filled i in
      results_tell op (filled_inputs i) (filled_registers s.registers) _ _ _ s.registers in_range
      (used_tells (row_of op) (filled_inputs i) i below) below.stack_bytes below.counter_bytes
      (registers_filled s fits.scratchpad fits.range)

  result_is_small : HasBytes (result_of op (filled_inputs (inputs_at op m here)) (filled_registers s.registers))
  result_is_small = result_small op (filled_inputs (inputs_at op m here)) (filled_registers s.registers) in_range inputs_small
      (registers_small s fits.scratchpad fits.range)

  abbrev filled_flow : Flow
  filled_flow = record { p = 0; p1 = 0; d0 = filled s.counters.d0; d1 = filled s.counters.d1 }

  flow_is_small : AreAddresses (flow_after (row_of op) (filled_inputs (inputs_at op m here)) true filled_flow)
  flow_is_small = flow_small (row_of op) (filled_inputs (inputs_at op m here)) true filled_flow inputs_small (record {
    p = omega arith;
    p1 = omega arith;
    d0 = filled_small 65536 s.counters.d0 (omega arith) fits.range.d0;
    d1 = filled_small 65536 s.counters.d1 (omega arith) fits.range.d1;
  })

  pub after_in_range : IsWithinRange (state_after op m here)
  after_in_range =
      let i = inputs_at op m here in
      let row = row_of op in
      let counters = data_tells row (filled_inputs i) i s.counters filled_flow (inputs_filled i)
      (record { d0 = filled_below s.counters.d0; d1 = filled_below s.counters.d1 }) in
      let flow = flow_after row (filled_inputs i) true filled_flow in
      let after = result_of op (filled_inputs i) (filled_registers s.registers) in
      let known = (state_after op m here) in
      let isar = result_is_small.isar in
      record {
        accumulator = known_small 256 after.accumulator known.registers.accumulator result_tells.accumulator result_is_small.accumulator;
        high = known_small 8 (after.isar / 8) known.registers.high result_tells.high (omega arith);
        low = known_small 8 (after.isar % 8) known.registers.low result_tells.low (omega arith);
        scratchpad = λ number. known_registers_small after known.registers number result_is_small result_tells;
        d0 = known_small 65536 flow.d0 known.counters.d0 counters.d0 flow_is_small.d0;
        d1 = known_small 65536 flow.d1 known.counters.d1 counters.d1 flow_is_small.d1;
        c = copies_small row i s.counters inputs_small fits.range.c;
      }
