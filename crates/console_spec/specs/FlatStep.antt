-- A step of the flat machine: an instruction, and the interrupt that is taken at its end (Fairchild F8 User's Guide). When a request is
-- sampled is this project's own.
use Rattle.std.specs.Prelude.{ℕ, ◌+◌, ◌/◌, ◌%◌, Bool, true, not, ◌||◌, if◌then◌else◌, List, Option, Some, None}
use Rattle.f8_spec.specs.Instructions.{row_of, clocks_of, clocks_before_fetch, interrupt_clocks, is_shielding}
use Rattle.f8_spec.specs.BusArbitration.{Seat}
use Rattle.f8_spec.specs.declared.instructions.Op.{Op}
use Rattle.console_spec.specs.InterruptRequests.{Mark, History, with_mark, effect_time}
use Rattle.console_spec.specs.InterruptChoice.{first_asking, vector_of}
use Rattle.console_spec.specs.Processor.{State, Inputs, history_of, own_inputs, result_of, counters_after, registers_after}
use Rattle.console_spec.specs.Processor.{write_of, with_write}
use Rattle.console_spec.specs.declared.PortWrite.{PortWrite}

-- The socket of the chip whose interrupt is taken: the instruction doesn't shield its end, the interrupt control bit is set after it, and
-- the chip is the first of the chain that asks at the time of the sample.
unfoldable pub chosen_at : Op → Bool → List Seat → List ℕ → History → ℕ → Option ℕ
chosen_at op icb seats chain h time = if is_shielding op || not icb then None else first_asking seats h time chain

-- what an instruction gets, with an interrupt at its end
abbrev pub with_chosen : Option ℕ → List Seat → List PortWrite → Inputs → Inputs
with_chosen chosen seats writes i = record i {
  chosen = chosen;
  vector_high = vector_of chosen seats writes / 256 % 256;
  vector_low = vector_of chosen seats writes % 256;
}

-- The chip that is chosen at the end of an instruction. Its requests are sampled before the last fetch.
abbrev pub chosen_in : Op → Inputs → List Seat → List ℕ → State → Option ℕ
chosen_in op i seats chain s =
    chosen_at op (result_of op i s.registers).status.icb seats chain (history_of s) (s.phi + clocks_before_fetch op i.taken)

-- all that an instruction gets but for the opcode at its end
abbrev pub inputs_of : Op → List ℕ → List Seat → List ℕ → State → Inputs
inputs_of op memory seats chain s =
    let i = own_inputs op memory seats s in
    with_chosen (chosen_in op i seats chain s) seats s.writes i

-- the clocks of an instruction, with those of the interrupt in place of the last fetch
abbrev pub clocks_by : Option ℕ → Op → Bool → ℕ
clocks_by None op taken = clocks_of op taken
clocks_by (Some socket) op taken = clocks_before_fetch op taken + interrupt_clocks

-- the acknowledgement in an instruction that ends at some clocks
abbrev pub with_acknowledged : Option ℕ → ℕ → List Mark → List Mark
with_acknowledged None ending marks = marks
with_acknowledged (Some socket) ending marks = with_mark socket (effect_time ending) marks

-- the state after an instruction
abbrev pub after_instruction : Op → List ℕ → List Seat → List ℕ → State → State
after_instruction op memory seats chain s =
    let i = inputs_of op memory seats chain s in
    let phi = s.phi + clocks_by i.chosen op i.taken in
    record {
      flow = counters_after (row_of op) i true s.flow;
      registers = registers_after op i s.registers;
      keys = s.keys;
      writes = with_write (write_of op i seats phi) s.writes;
      acknowledged = with_acknowledged i.chosen phi s.acknowledged;
      pulses = s.pulses;
      count = s.count + 1;
      phi = phi;
    }
