-- The 3850 in the bus steps of the instruction that it holds: what it plans, the byte that it drives in a step, and what it is after a
-- step with its byte. Which step brings the results, and that a first operand byte is kept in the accumulator, is this project's own,
-- after the Fairchild F8 User's Guide.
use Rattle.std.specs.Prelude.{◌≡◌, ◌<◌, ℕ, ◌+◌, ◌==◌, nat_lt, if◌then◌else◌, Bool, false, List, [], map, length, Option, Some, None}
use Rattle.f8_spec.specs.Instructions.{decoded, row_of}
use Rattle.f8_spec.specs.RegisterNumbers.{register_hu, register_hl, register_ku, register_kl, register_qu, register_ql}
use Rattle.f8_spec.specs.MicroSteps.{Step as MicroStep, steps_before_fetch, steps_of}
use Rattle.f8_spec.specs.declared.instructions.Op.{Op}
use Rattle.f8_spec.specs.declared.instructions.Op.TheVariants.{LrQDc, LrHDc}
use Rattle.f8_spec.specs.declared.instructions.Row.{Row}
use Rattle.f8_spec.specs.declared.instructions.Row.TheVariants.{Idle, StackToK, StackFromK, CallK, JumpQ, DataToPair}
use Rattle.f8_spec.specs.declared.instructions.Row.TheVariants.{DataFromQ, DataFromH, ReadData, StoreData, Immediate}
use Rattle.f8_spec.specs.declared.instructions.Row.TheVariants.{PortIn, PortOut, Call, Jump, AddData, ShortIn, ShortOut}
use Rattle.console_spec.specs.BusTrace.{driver_in}
use Rattle.console_spec.specs.Processor.{Registers, at_power, scratch_byte, with_scratch, effect, is_taken, port_field}
use Rattle.cpu3850.specs.CpuPorts.{PortBytes, clear_ports, read_by, put_by}
use Rattle.cpu3850.specs.declared.steps.Step.{Step}

-- the registers of the 3850, its own two ports, and the opcode that it holds
pub record CpuState : Type 0 where
  pub registers : Registers
  pub ports : PortBytes
  pub opcode : ℕ

-- bytes are below 256, ISAR is below 64, and the scratchpad has 64 bytes
pub record AreInRange (m : Registers) : Type 0 where
  pub accumulator : m.accumulator < 256
  pub isar : m.isar < 64
  pub size : length m.scratchpad ≡ 64
  pub bytes : (number : ℕ) → scratch_byte number m < 256

-- at power-on the opcode 00 is held
abbrev pub powered : ℕ → CpuState
powered fill = record { registers = (at_power fill).registers; ports = clear_ports; opcode = 0x00 }

-- ---- the plan

-- a step of the lists, as the bus is told it
abbrev pub bus_step : MicroStep → Step
bus_step s = record { romc = s.romc; long = s.long; driver = driver_in s }

-- the steps of an instruction; the flag says that a branch is taken
abbrev pub listed : Op → Bool → List Step
listed op taken = map bus_step (steps_of (row_of op) taken)

abbrev pub planned_as : Option Op → Registers → List Step
planned_as None m = []
planned_as (Some op) m = listed op (is_taken op m)

-- the steps of the instruction held, and none where its opcode is reserved
abbrev pub planned : CpuState → List Step
planned c = planned_as (decoded c.opcode) c.registers

-- the place of the last step, the fetch of the next opcode
abbrev pub last_step : Row → ℕ
last_step row = length (steps_before_fetch row false)

-- ---- the byte that the CPU drives

-- a byte in one step, and 00 in every other
abbrev pub only : ℕ → ℕ → ℕ → ℕ
only at byte index = if index == at then byte else 0

-- the bytes of the first two steps, and 00 later
abbrev pub two : ℕ → ℕ → ℕ → ℕ
two first second index = if index == 0 then first else only 1 second index

-- the byte of a step, by the row and the port of an instruction
abbrev pub driven_in : Row → ℕ → ℕ → Registers → ℕ
driven_in StackFromK port index m = two (scratch_byte register_ku m) (scratch_byte register_kl m) index
driven_in CallK port index m = two (scratch_byte register_kl m) (scratch_byte register_ku m) index
driven_in JumpQ port index m = two (scratch_byte register_ql m) (scratch_byte register_qu m) index
driven_in DataFromQ port index m = two (scratch_byte register_qu m) (scratch_byte register_ql m) index
driven_in DataFromH port index m = two (scratch_byte register_hu m) (scratch_byte register_hl m) index
driven_in StoreData port index m = only 0 m.accumulator index
driven_in PortOut port index m = only 1 m.accumulator index
driven_in Call port index m = only 3 m.accumulator index
driven_in Jump port index m = only 2 m.accumulator index
driven_in AddData port index m = only 0 m.accumulator index
driven_in ShortIn port index m = only 0 port index
driven_in ShortOut port index m = two port m.accumulator index
driven_in row port index m = 0

abbrev pub driven_as : Option Op → ℕ → Registers → ℕ
driven_as None index m = 0
driven_as (Some op) index m = driven_in (row_of op) (port_field op) index m

-- The byte that the CPU drives in a step. It is 00 in each step whose byte is another's.
abbrev pub driven : ℕ → CpuState → ℕ
driven index c = driven_as (decoded c.opcode) index c.registers

-- ---- what the CPU takes

-- the step with which the results of an instruction come
abbrev pub effect_at : Row → ℕ
effect_at Idle = 0
effect_at ReadData = 0
effect_at Immediate = 0
effect_at Call = 0
effect_at Jump = 0
effect_at PortIn = 1
effect_at ShortIn = 1
effect_at row = last_step row

-- the first register of the pair that `LR K,P`, `LR Q,DC` and `LR H,DC` load
abbrev pub pair_of : Op → ℕ
pair_of LrQDc = 14
pair_of LrHDc = 10
pair_of op = 12

-- the registers after a step with its byte: a pair of them is loaded byte by byte, and the last fetch brings no operand
abbrev pub worked : Row → Op → ℕ → ℕ → Registers → Registers
worked StackToK op index byte m = if nat_lt index 2 then with_scratch (pair_of op + index) byte m else m
worked DataToPair op index byte m = if nat_lt index 2 then with_scratch (pair_of op + index) byte m else m
worked row op index byte m =
    if index == effect_at row then effect op (if index == last_step row then 0 else byte) m else m

-- The results come from the byte on the bus, or from a port of the CPU's own. The last byte is the opcode that is held from then on.
abbrev pub taken_in : Row → Op → ℕ → ℕ → CpuState → CpuState
taken_in row op index byte c = record {
  registers = worked row op index (read_by op byte c.ports) c.registers;
  ports = if index == effect_at row then put_by op c.registers.accumulator c.ports else c.ports;
  opcode = if index == last_step row then byte else c.opcode;
}

abbrev pub taken_as : Option Op → ℕ → ℕ → CpuState → CpuState
taken_as None index byte c = c
taken_as (Some op) index byte c = taken_in (row_of op) op index byte c

-- the CPU after a step with its byte
abbrev pub taken : ℕ → ℕ → CpuState → CpuState
taken index byte c = taken_as (decoded c.opcode) index byte c
