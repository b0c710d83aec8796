-- A state of which all is known: after each of the instructions all is known again, and it is what the flat machine has. So no definition
-- of a single instruction knows less than it could there. Computed for all opcodes, at two states; only of what comes in by a port nothing
-- is known.
use Rattle.std.proofs.Common.{◌≡◌, ℕ, ◌+◌, ◌*◌, ◌/◌, ◌%◌, Bool, true, false, List, [], ◌∷◌, map, refl}
use Rattle.std.specs.Prelude.{Option, Some, None, ◌==◌, ◌&&◌, not, if◌then◌else◌}
use Rattle.std.specs.List.{list_all, range_with_len}
use Rattle.f8_spec.specs.Flags.{status_of}
use Rattle.f8_spec.specs.Instructions.{decoded, row_of}
use Rattle.f8_spec.specs.declared.instructions.Op.{Op}
use Rattle.f8_spec.specs.declared.instructions.Op.TheVariants.{In, Ins}
use Rattle.console_spec.specs.Processor.{Flow, Registers, Inputs, scratch_byte, is_taken, effect, result_of, flow_after}
use Rattle.abs_domain.specs.AbstractState.{KnownRegisters, KnownCounters}
use Rattle.abs_domain.specs.Joins.{are_registers_below}
use Rattle.abs_step.specs.KnownResults.{known_effect, register_writes, known_result}
use Rattle.abs_step.specs.KnownFlow.{KnownInputs, known_inputs, known_used_byte, known_counters, exits}
use Rattle.abs_step.specs.declared.exits.Exit.{Exit}
use Rattle.abs_step.specs.Concretization.{whole_registers}

-- ---- a byte at each address, and a machine there

abbrev byte_at : ℕ → ℕ
byte_at at = (at * 7 + at / 256 + 3) % 256

abbrev flow : Flow
flow = record { p = 0x0123; p1 = 0x2345; d0 = 0x3456; d1 = 0x34B1 }

abbrev pad : List ℕ
pad = map (λ n. (n * 37 + 11) % 256) (range_with_len 0 64)

-- by the accumulator, ISAR and the status word
abbrev machine : ℕ → ℕ → ℕ → Registers
machine a isar w = record { accumulator = a; isar = isar; status = status_of w; scratchpad = pad }

-- what an instruction gets there, of which no byte of a port counts
abbrev inputs : Op → Registers → Inputs
inputs op m = record {
  taken = is_taken op m;
  chosen = None;
  operand = byte_at 0x0124;
  second = byte_at 0x0125;
  opcode = 0;
  data_byte = byte_at flow.d0;
  data_high = 0x34;
  data_low = 0x56;
  stack_high = 0x23;
  stack_low = 0x45;
  accumulator = m.accumulator;
  k_high = scratch_byte 12 m;
  k_low = scratch_byte 13 m;
  q_high = scratch_byte 14 m;
  q_low = scratch_byte 15 m;
  h_high = scratch_byte 10 m;
  h_low = scratch_byte 11 m;
  port = 0;
  port_byte = 0;
  vector_high = 0;
  vector_low = 0;
}

abbrev all_inputs : Op → Registers → KnownInputs
all_inputs op m = known_inputs op (λ at. Some (byte_at at)) flow.p (Some flow.p1) (Some flow.d0) (whole_registers m)

-- ---- by instruction

abbrev comes_by_port : Op → Bool
comes_by_port In = true
comes_by_port (Ins n) = true
comes_by_port op = false

abbrev by_decoded : (Op → Bool) → Option Op → Bool
by_decoded test None = true
by_decoded test (Some op) = test op

-- a test holds of each instruction
abbrev of_each : (Op → Bool) → Bool
of_each test = list_all (λ code. by_decoded test (decoded code)) (range_with_len 0 256)

abbrev same_registers : KnownRegisters → KnownRegisters → Bool
same_registers k l = are_registers_below k l && are_registers_below l k

abbrev known_after : Registers → Op → KnownRegisters
known_after m op =
    let i : KnownInputs = all_inputs op m in
    known_result op (known_used_byte (row_of op) i) i.stack_bytes i.counter_bytes (whole_registers m)

abbrev registers_right : Registers → Op → Bool
registers_right m op = if comes_by_port op then true else same_registers (known_after m op) (whole_registers (result_of op (inputs op m) m))

-- every chip's DC0 is at D0 at first, so that the facts on it hold as long as both move alike
abbrev counters : KnownCounters
counters = record { d0 = Some flow.d0; d1 = Some flow.d1; c = Some flow.d0; s0 = true; s1 = true; p0 = true; p1 = false }

abbrev known_as : Option ℕ → ℕ → Bool
known_as None value = false
known_as (Some known) value = known == value

abbrev same_fact : Bool → Bool → Bool
same_fact true b = b
same_fact false b = not b

abbrev counters_right : Registers → Op → Bool
counters_right m op =
    let k : KnownCounters = known_counters (row_of op) (all_inputs op m) counters in
    let r : Flow = flow_after (row_of op) (inputs op m) true flow in
    let own : Flow = flow_after (row_of op) (inputs op m) false flow in
    known_as k.d0 r.d0 && known_as k.d1 r.d1 && known_as k.c own.d0 && k.s0 && k.s1 && same_fact k.p0 (own.d0 == r.d0)
    && same_fact k.p1 (own.d0 == r.d1)

abbrev is_the_one : Flow → List Exit → Bool
is_the_one r [] = false
is_the_one r (e ∷ []) = (e.at == r.p) && known_as e.ret r.p1
is_the_one r (e ∷ (d ∷ ds)) = false

abbrev exits_right : Registers → Op → Bool
exits_right m op = is_the_one (flow_after (row_of op) (inputs op m) true flow) (exits (row_of op) (all_inputs op m) flow.p (Some flow.p1))

-- ---- a first state, with all flags set but zero, and a second with other digits of ISAR and other flags

first_registers : of_each (registers_right (machine 0xA7 21 0x1B)) ≡ true
unfolding decoded effect known_effect register_writes
first_registers = refl

first_counters : of_each (counters_right (machine 0xA7 21 0x1B)) ≡ true
unfolding decoded
first_counters = refl

first_exits : of_each (exits_right (machine 0xA7 21 0x1B)) ≡ true
unfolding decoded
first_exits = refl

second_registers : of_each (registers_right (machine 0x5B 56 0x04)) ≡ true
unfolding decoded effect known_effect register_writes
second_registers = refl

-- the sum of D0 and A is D1 here, where 5B more than 3456 is 34B1
second_counters : of_each (counters_right (machine 0x5B 56 0x04)) ≡ true
unfolding decoded
second_counters = refl

second_exits : of_each (exits_right (machine 0x5B 56 0x04)) ≡ true
unfolding decoded
second_exits = refl

-- ---- the test tells a difference of one step of ISAR

not_alike : same_registers (whole_registers (machine 1 21 0)) (whole_registers (machine 1 22 0)) ≡ false
not_alike = refl
