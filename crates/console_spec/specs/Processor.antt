-- The F8 as one flat machine (Fairchild F8 User's Guide): one program counter, one stack register and two data counters, with no
-- counters of chips and no bus codes. Of the chips it knows alone how many have a port.
use Rattle.std.specs.Prelude.{ℕ, ◌+◌, ◌-◌, ◌*◌, ◌/◌, ◌%◌, Bool, true, false, not, ◌&&◌, ◌||◌, ◌==◌, nat_lt}
use Rattle.std.specs.Prelude.{if◌then◌else◌, bit_and, bit_or, bit_xor, List, [], ◌∷◌, replicate, slice_index, slice_set}
use Rattle.std.specs.Prelude.{Option, Some, None}
use Rattle.f8_spec.specs.Words.{word, places_on, displaced, sum_value, decimal_value}
use Rattle.f8_spec.specs.Flags.{Status, clear_status, status_byte, status_of, after_result, after_sum}
use Rattle.f8_spec.specs.Instructions.{row_of, row_length}
use Rattle.f8_spec.specs.RegisterNumbers.{register_j, register_hu, register_hl, register_ku, register_kl, register_qu, register_ql}
use Rattle.f8_spec.specs.RegisterNumbers.{pointed_field, up_field, down_field}
use Rattle.f8_spec.specs.MicroSteps.{Source, Opcode, Operand, SecondOperand, KeptOperand, DataByte, DataHigh, DataLow}
use Rattle.f8_spec.specs.MicroSteps.{StackHigh, StackLow, KHigh, KLow, QHigh, QLow, HHigh, HLow, Accumulator}
use Rattle.f8_spec.specs.MicroSteps.{PortNumber, PortByte, VectorHigh, VectorLow, NoByte, clocks_along, reset_steps}
use Rattle.f8_spec.specs.declared.instructions.Op.{Op}
use Rattle.f8_spec.specs.declared.instructions.Op.TheVariants.{Out, LrAKu, LrAKl, LrAQu, LrAQl, LrKuA, LrKlA, LrQuA}
use Rattle.f8_spec.specs.declared.instructions.Op.TheVariants.{LrQlA, LrKP, LrAIs, LrIsA, LrQDc, LrHDc, Sr1, Sl1, Sr4}
use Rattle.f8_spec.specs.declared.instructions.Op.TheVariants.{Sl4, Lm, Com, Lnk, Di, Ei, LrWJ, LrJW, Inc, Li, Ni, Oi}
use Rattle.f8_spec.specs.declared.instructions.Op.TheVariants.{Xi, Ai, Ci, In, Pi, Jmp, Ds, LrAR, LrRA, Lisu, Lisl, Lis}
use Rattle.f8_spec.specs.declared.instructions.Op.TheVariants.{Bt, Am, Amd, Nm, Om, Xm, Cm, Br7, Bf, Ins, Outs, As, Asd}
use Rattle.f8_spec.specs.declared.instructions.Op.TheVariants.{Xs, Ns}
use Rattle.f8_spec.specs.declared.instructions.Row.{Row}
use Rattle.f8_spec.specs.declared.instructions.Row.TheVariants.{StackFromK, CallK, JumpQ, DataFromQ, DataFromH}
use Rattle.f8_spec.specs.declared.instructions.Row.TheVariants.{ReadData, StoreData, Return, Immediate, PortIn, Call}
use Rattle.f8_spec.specs.declared.instructions.Row.TheVariants.{Jump, LoadData, Exchange, AddData, Branch, BranchIsar}
use Rattle.f8_spec.specs.declared.instructions.Row.TheVariants.{ShortIn, Idle}
use Rattle.f8_spec.specs.BusArbitration.{Seat}
use Rattle.console_spec.specs.AddressSpace.{byte_at}
use Rattle.console_spec.specs.Writes.{chip_port_byte, port_value, takers}
use Rattle.console_spec.specs.InterruptRequests.{Mark, History, with_mark}
use Rattle.console_spec.specs.declared.PortWrite.{PortWrite}
use Rattle.console_spec.specs.declared.Regs.{Regs}

-- ---- the state

-- the one set of counters: the address of the instruction that comes next, the stack register and the two data counters
pub record Flow : Type 0 where
  pub p : ℕ
  pub p1 : ℕ
  pub d0 : ℕ
  pub d1 : ℕ

-- what the processor itself keeps
pub record Registers : Type 0 where
  pub accumulator : ℕ
  pub isar : ℕ
  pub status : Status
  pub scratchpad : List ℕ

-- The state between two instructions: a key byte for each of 256 ports; the writes that ports took, the interrupts that chips had
-- acknowledged and the pulses at their pins, the last one first; and the instructions done so far with their clocks, in Φ.
pub record State : Type 0 where
  pub flow : Flow
  pub registers : Registers
  pub keys : List ℕ
  pub writes : List PortWrite
  pub acknowledged : List Mark
  pub pulses : List Mark
  pub count : ℕ
  pub phi : ℕ

-- Power-on: the power byte is in the accumulator, in ISAR modulo 64 and in every byte of the scratchpad, and all else is 0.
abbrev pub at_power : ℕ → State
at_power fill = record {
  flow = record { p = 0; p1 = 0; d0 = 0; d1 = 0 };
  registers = record { accumulator = fill; isar = fill % 64; status = clear_status; scratchpad = replicate 64 fill };
  keys = replicate 256 0;
  writes = [];
  acknowledged = [];
  pulses = [];
  count = 0;
  phi = 0;
}

-- the history by which chips ask for interrupts
abbrev pub history_of : State → History
history_of s = record { writes = s.writes; acknowledged = s.acknowledged; pulses = s.pulses }

-- reset takes the clocks of its bus steps and changes nothing else
abbrev pub after_reset : State → State
after_reset s = record s { phi = s.phi + clocks_along reset_steps }

-- ---- registers

abbrev pub scratch_byte : ℕ → Registers → ℕ
scratch_byte number m = slice_index m.scratchpad number

abbrev pub with_scratch : ℕ → ℕ → Registers → Registers
with_scratch number byte m = record m { scratchpad = slice_set m.scratchpad number byte }

-- two registers, the high byte in the lower one
abbrev pub with_pair : ℕ → ℕ → ℕ → Registers → Registers
with_pair number high low m = with_scratch (number + 1) low (with_scratch number high m)

-- the register that a field names: from 12 on the one that ISAR points to
abbrev pub register_of : ℕ → Registers → ℕ
register_of field m = if nat_lt field pointed_field then field else m.isar

abbrev pub field_byte : ℕ → Registers → ℕ
field_byte field m = scratch_byte (register_of field m) m

-- The field 13 steps the low octal digit of ISAR up, and 14 down. The digit wraps, and the high one stays.
abbrev pub stepped_isar : ℕ → ℕ → ℕ
stepped_isar field isar =
    if field == up_field then isar / 8 * 8 + (isar + 1) % 8 else
    if field == down_field then isar / 8 * 8 + (isar + 7) % 8 else
    isar

abbrev pub with_isar_stepped : ℕ → Registers → Registers
with_isar_stepped field m = record m { isar = stepped_isar field m.isar }

-- ---- results

-- a result of logic, of a shift or of a port read in the accumulator
abbrev pub with_result : ℕ → Registers → Registers
with_result value m = record m { accumulator = value; status = after_result m.status value }

-- a sum with the accumulator in the accumulator
abbrev pub with_sum : ℕ → Bool → Registers → Registers
with_sum byte carry m = record m {
  accumulator = sum_value m.accumulator byte carry;
  status = after_sum m.status m.accumulator byte carry;
}

-- the decimal sum: the flags are those of the binary one
abbrev pub with_decimal_sum : ℕ → Registers → Registers
with_decimal_sum byte m = record m {
  accumulator = decimal_value m.accumulator byte;
  status = after_sum m.status m.accumulator byte false;
}

-- A comparison: the flags of the one sum of the byte, the complement of the accumulator and 1. That this is one sum, with its corner
-- where the accumulator is 0, is this project's own.
abbrev pub compared : ℕ → Registers → Registers
compared byte m = record m { status = after_sum m.status byte (255 - m.accumulator) true }

-- a register less 1: the sum with 255
abbrev pub decremented : ℕ → Registers → Registers
decremented field m = record (with_scratch (register_of field m) (sum_value (field_byte field m) 255 false) m) {
  status = after_sum m.status (field_byte field m) 255 false;
}

-- The registers after an instruction that uses one byte: the one behind its opcode, the one at the data counter, or that of its port.
-- An instruction that is not named here leaves them, but for the pairs of registers below.
unfoldable pub effect : Op → ℕ → Registers → Registers
effect LrAKu byte m = record m { accumulator = scratch_byte register_ku m }
effect LrAKl byte m = record m { accumulator = scratch_byte register_kl m }
effect LrAQu byte m = record m { accumulator = scratch_byte register_qu m }
effect LrAQl byte m = record m { accumulator = scratch_byte register_ql m }
effect LrKuA byte m = with_scratch register_ku m.accumulator m
effect LrKlA byte m = with_scratch register_kl m.accumulator m
effect LrQuA byte m = with_scratch register_qu m.accumulator m
effect LrQlA byte m = with_scratch register_ql m.accumulator m
effect LrAIs byte m = record m { accumulator = m.isar }
effect LrIsA byte m = record m { isar = m.accumulator % 64 }
effect Sr1 byte m = with_result (m.accumulator / 2) m
effect Sl1 byte m = with_result (m.accumulator * 2 % 256) m
effect Sr4 byte m = with_result (m.accumulator / 16) m
effect Sl4 byte m = with_result (m.accumulator * 16 % 256) m
effect Lm byte m = record m { accumulator = byte }
effect Com byte m = with_result (255 - m.accumulator) m
effect Lnk byte m = with_sum 0 m.status.carry m
effect Di byte m = record m { status = record m.status { icb = false } }
effect Ei byte m = record m { status = record m.status { icb = true } }
effect LrWJ byte m = record m { status = status_of (scratch_byte register_j m) }
effect LrJW byte m = with_scratch register_j (status_byte m.status) m
effect Inc byte m = with_sum 1 false m
effect Li byte m = record m { accumulator = byte }
effect Ni byte m = with_result (bit_and m.accumulator byte) m
effect Oi byte m = with_result (bit_or m.accumulator byte) m
effect Xi byte m = with_result (bit_xor m.accumulator byte) m
effect Ai byte m = with_sum byte false m
effect Ci byte m = compared byte m
effect In byte m = with_result byte m
-- the high byte of the target stays in the accumulator
effect Pi byte m = record m { accumulator = byte }
effect Jmp byte m = record m { accumulator = byte }
effect (Ds r) byte m = with_isar_stepped r (decremented r m)
effect (LrAR r) byte m = with_isar_stepped r (record m { accumulator = field_byte r m })
effect (LrRA r) byte m = with_isar_stepped r (with_scratch (register_of r m) m.accumulator m)
effect (Lisu n) byte m = record m { isar = n * 8 + m.isar % 8 }
effect (Lisl n) byte m = record m { isar = m.isar / 8 * 8 + n }
effect (Lis n) byte m = record m { accumulator = n }
effect Am byte m = with_sum byte false m
effect Amd byte m = with_decimal_sum byte m
effect Nm byte m = with_result (bit_and m.accumulator byte) m
effect Om byte m = with_result (bit_or m.accumulator byte) m
effect Xm byte m = with_result (bit_xor m.accumulator byte) m
effect Cm byte m = compared byte m
effect (Ins n) byte m = with_result byte m
effect (As r) byte m = with_isar_stepped r (with_sum (field_byte r m) false m)
effect (Asd r) byte m = with_isar_stepped r (with_decimal_sum (field_byte r m) m)
effect (Xs r) byte m = with_isar_stepped r (with_result (bit_xor m.accumulator (field_byte r m)) m)
effect (Ns r) byte m = with_isar_stepped r (with_result (bit_and m.accumulator (field_byte r m)) m)
effect op byte m = m

-- ---- branches

-- one of the flags that the bits of t choose is set: sign, carry, zero and overflow, from the lowest bit on
abbrev pub any_chosen : ℕ → Status → Bool
any_chosen t w =
    ((t % 2 == 1) && w.sign) || ((t / 2 % 2 == 1) && w.carry) || ((t / 4 % 2 == 1) && w.zero) || ((t / 8 % 2 == 1) && w.overflow)

-- BT branches where a chosen flag is set, BF where all chosen ones are clear, and BR7 unless the low digit of ISAR is 7
abbrev pub is_taken : Op → Registers → Bool
is_taken (Bt t) m = any_chosen t m.status
is_taken (Bf t) m = not (any_chosen t m.status)
is_taken Br7 m = not (m.isar % 8 == 7)
is_taken op m = false

-- ---- what an instruction gets

-- all that an instruction gets from the state before it, whether it uses it or not
pub record Inputs : Type 0 where
  -- its branch is taken
  pub taken : Bool
  -- the socket of the chip whose interrupt is taken at its end
  pub chosen : Option ℕ
  -- the two bytes behind its opcode
  pub operand : ℕ
  pub second : ℕ
  -- the opcode that is fetched at its end
  pub opcode : ℕ
  -- the byte at the data counter, and the bytes of the data counter and of the stack register
  pub data_byte : ℕ
  pub data_high : ℕ
  pub data_low : ℕ
  pub stack_high : ℕ
  pub stack_low : ℕ
  pub accumulator : ℕ
  -- the pairs of registers
  pub k_high : ℕ
  pub k_low : ℕ
  pub q_high : ℕ
  pub q_low : ℕ
  pub h_high : ℕ
  pub h_low : ℕ
  -- the number of its port, and the byte there
  pub port : ℕ
  pub port_byte : ℕ
  -- the bytes of the vector where an interrupt is taken
  pub vector_high : ℕ
  pub vector_low : ℕ

-- the byte that a bus step carries
abbrev pub byte_of : Inputs → Source → ℕ
byte_of i Opcode = i.opcode
byte_of i Operand = i.operand
byte_of i SecondOperand = i.second
byte_of i KeptOperand = i.operand
byte_of i DataByte = i.data_byte
byte_of i DataHigh = i.data_high
byte_of i DataLow = i.data_low
byte_of i StackHigh = i.stack_high
byte_of i StackLow = i.stack_low
byte_of i KHigh = i.k_high
byte_of i KLow = i.k_low
byte_of i QHigh = i.q_high
byte_of i QLow = i.q_low
byte_of i HHigh = i.h_high
byte_of i HLow = i.h_low
byte_of i Accumulator = i.accumulator
byte_of i PortNumber = i.port
byte_of i PortByte = i.port_byte
byte_of i VectorHigh = i.vector_high
byte_of i VectorLow = i.vector_low
byte_of i NoByte = 0

-- the byte that the instructions of a row use, and 00 where they use none
abbrev pub used_byte : Row → Inputs → ℕ
used_byte Immediate i = i.operand
used_byte Call i = i.operand
used_byte Jump i = i.operand
used_byte ReadData i = i.data_byte
used_byte PortIn i = i.port_byte
used_byte ShortIn i = i.port_byte
used_byte Idle i = i.port_byte
used_byte row i = 0

-- the registers after an instruction
abbrev pub result_of : Op → Inputs → Registers → Registers
result_of LrKP i m = with_pair register_ku i.stack_high i.stack_low m
result_of LrQDc i m = with_pair register_qu i.data_high i.data_low m
result_of LrHDc i m = with_pair register_hu i.data_high i.data_low m
result_of op i m = effect op (used_byte (row_of op) i) m

-- The counters after an instruction. The flag says that the set has a second data counter. A branch that is taken counts from the
-- address of its displacement byte.
abbrev pub flow_after : Row → Inputs → Bool → Flow → Flow
flow_after StackFromK i second c = record c { p = places_on c.p 1; p1 = word i.k_high i.k_low }
flow_after CallK i second c = record c { p = word i.k_high i.k_low; p1 = places_on c.p 1 }
flow_after JumpQ i second c = record c { p = word i.q_high i.q_low }
flow_after DataFromQ i second c = record c { p = places_on c.p 1; d0 = word i.q_high i.q_low }
flow_after DataFromH i second c = record c { p = places_on c.p 1; d0 = word i.h_high i.h_low }
flow_after ReadData i second c = record c { p = places_on c.p 1; d0 = places_on c.d0 1 }
flow_after StoreData i second c = record c { p = places_on c.p 1; d0 = places_on c.d0 1 }
flow_after Return i second c = record c { p = c.p1 }
flow_after Call i second c = record c { p = word i.operand i.second; p1 = places_on c.p 3 }
flow_after Jump i second c = record c { p = word i.operand i.second }
flow_after LoadData i second c = record c { p = places_on c.p 3; d0 = word i.operand i.second }
flow_after Exchange i second c =
    if second then record c { p = places_on c.p 1; d0 = c.d1; d1 = c.d0 } else record c { p = places_on c.p 1 }
flow_after AddData i second c = record c { p = places_on c.p 1; d0 = displaced c.d0 i.accumulator }
flow_after Branch i second c =
    record c { p = if i.taken then displaced (places_on c.p 1) i.operand else places_on c.p 2 }
flow_after BranchIsar i second c =
    record c { p = if i.taken then displaced (places_on c.p 1) i.operand else places_on c.p 2 }
flow_after row i second c = record c { p = places_on c.p (row_length row) }

-- ---- an interrupt at the end of an instruction, after its own table

-- the next address goes into the stack register, and the vector is the next one
abbrev pub interrupted_by : Option ℕ → ℕ → Flow → Flow
interrupted_by None vector c = c
interrupted_by (Some socket) vector c = record c { p = vector; p1 = c.p }

abbrev pub interrupted : Inputs → Flow → Flow
interrupted i c = interrupted_by i.chosen (word i.vector_high i.vector_low) c

-- the counters after an instruction and its interrupt
abbrev pub counters_after : Row → Inputs → Bool → Flow → Flow
counters_after row i second c = interrupted i (flow_after row i second c)

-- the interrupt control bit is cleared
abbrev pub vectored_by : Option ℕ → Registers → Registers
vectored_by None m = m
vectored_by (Some socket) m = record m { status = record m.status { icb = false } }

-- the registers after an instruction and its interrupt
abbrev pub registers_after : Op → Inputs → Registers → Registers
registers_after op i m = vectored_by i.chosen (result_of op i m)

-- ---- what an instruction gets and writes

abbrev pub port_field : Op → ℕ
port_field (Ins n) = n
port_field (Outs n) = n
port_field op = 0

-- The byte that an instruction reads at its port, and 0 where it reads none. `INS` of port 0 or 1 reads the processor's own, and `IN` never
-- does.
abbrev pub read_port : Op → ℕ → List Seat → State → ℕ
read_port In operand seats s = chip_port_byte operand seats s.keys s.writes
read_port (Ins n) operand seats s = if nat_lt n 2 then port_value n s.keys s.writes else chip_port_byte n seats s.keys s.writes
read_port op operand seats s = 0

-- The port that an instruction writes, where the write is one: exactly one chip has it, or it is the processor's own by `OUTS`.
abbrev pub if_taken : ℕ → List Seat → Option ℕ
if_taken port seats = if takers port seats == 1 then Some port else None

abbrev pub written_port : Op → ℕ → List Seat → Option ℕ
written_port Out operand seats = if_taken operand seats
written_port (Outs n) operand seats = if nat_lt n 2 then Some n else if_taken n seats
written_port op operand seats = None

-- What an instruction gets, but for the opcode and the interrupt at its end.
unfoldable pub own_inputs : Op → List ℕ → List Seat → State → Inputs
own_inputs op memory seats s = record {
  taken = is_taken op s.registers;
  chosen = None;
  operand = byte_at memory (places_on s.flow.p 1);
  second = byte_at memory (places_on s.flow.p 2);
  opcode = 0;
  data_byte = byte_at memory s.flow.d0;
  data_high = s.flow.d0 / 256;
  data_low = s.flow.d0 % 256;
  stack_high = s.flow.p1 / 256;
  stack_low = s.flow.p1 % 256;
  accumulator = s.registers.accumulator;
  k_high = scratch_byte register_ku s.registers;
  k_low = scratch_byte register_kl s.registers;
  q_high = scratch_byte register_qu s.registers;
  q_low = scratch_byte register_ql s.registers;
  h_high = scratch_byte register_hu s.registers;
  h_low = scratch_byte register_hl s.registers;
  port = port_field op;
  port_byte = read_port op (byte_at memory (places_on s.flow.p 1)) seats s;
  vector_high = 0;
  vector_low = 0;
}

-- the write of an instruction, with the clocks at its end
abbrev pub write_at : ℕ → ℕ → Option ℕ → Option PortWrite
write_at phi byte None = None
write_at phi byte (Some port) = Some (record { phi = phi; port = port; byte = byte })

abbrev pub write_of : Op → Inputs → List Seat → ℕ → Option PortWrite
write_of op i seats phi = write_at phi i.accumulator (written_port op i.operand seats)

abbrev pub with_write : Option PortWrite → List PortWrite → List PortWrite
with_write None ws = ws
with_write (Some w) ws = w ∷ ws

-- a key byte from outside
abbrev pub with_key : ℕ → ℕ → State → State
with_key port byte s = record s { keys = slice_set s.keys port byte }

-- a pulse from outside, at the pin of the chip in a socket
abbrev pub with_pulse : ℕ → State → State
with_pulse chip s = record s { pulses = with_mark chip s.phi s.pulses }

-- the registers as a run tells them
abbrev pub told_regs : State → Regs
told_regs s = record {
  p = s.flow.p;
  p1 = s.flow.p1;
  d0 = s.flow.d0;
  d1 = s.flow.d1;
  a = s.registers.accumulator;
  isar = s.registers.isar;
  w = status_byte s.registers.status;
  scratch = s.registers.scratchpad;
}
