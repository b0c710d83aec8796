-- The bus steps of an instruction, of an interrupt and of reset. The lists are this project's own choice, after the Fairchild F8
-- User's Guide. Every list of an instruction ends with the fetch of the next opcode.
use Rattle.std.specs.Prelude.{ℕ, Bool, true, false, if◌then◌else◌, List, [], ◌∷◌, ◌++◌, sum_by}
use Rattle.f8_spec.specs.Instructions.{has_long_fetch, step_clocks}
use Rattle.f8_spec.specs.declared.instructions.Row.{Row}
use Rattle.f8_spec.specs.declared.instructions.Row.TheVariants.{Plain, PlainLong, Idle, StackToK, StackFromK, CallK}
use Rattle.f8_spec.specs.declared.instructions.Row.TheVariants.{JumpQ, DataToPair, DataFromQ, DataFromH, ReadData}
use Rattle.f8_spec.specs.declared.instructions.Row.TheVariants.{StoreData, Return, Immediate, PortIn, PortOut, Call}
use Rattle.f8_spec.specs.declared.instructions.Row.TheVariants.{Jump, LoadData, Exchange, AddData, Branch, BranchIsar}
use Rattle.f8_spec.specs.declared.instructions.Row.TheVariants.{ShortIn, ShortOut}

-- what the byte of a step is
pub data Source : Type 0 where
  -- the opcode that comes next, and the bytes behind the opcode that is carried out
  Opcode : Source
  Operand : Source
  SecondOperand : Source
  -- the first operand byte, which the CPU kept in its accumulator
  KeptOperand : Source
  -- the byte at the data counter, and the bytes of the counter
  DataByte : Source
  DataHigh : Source
  DataLow : Source
  -- the bytes of the stack register
  StackHigh : Source
  StackLow : Source
  -- the bytes of the scratchpad's pairs K, Q and H
  KHigh : Source
  KLow : Source
  QHigh : Source
  QLow : Source
  HHigh : Source
  HLow : Source
  Accumulator : Source
  -- the number of a port, and the byte that is read there
  PortNumber : Source
  PortByte : Source
  -- the bytes of an interrupt's vector
  VectorHigh : Source
  VectorLow : Source
  -- 00
  NoByte : Source

pub record Step : Type 0 where
  pub romc : ℕ
  pub long : Bool
  pub source : Source

abbrev pub long_step : ℕ → Source → Step
long_step romc source = record { romc = romc; long = true; source = source }

abbrev pub short_step : ℕ → Source → Step
short_step romc source = record { romc = romc; long = false; source = source }

-- the steps before the last fetch; the flag says that a branch is taken
abbrev pub steps_before_fetch : Row → Bool → List Step
steps_before_fetch Plain taken = []
steps_before_fetch PlainLong taken = []
steps_before_fetch Idle taken = short_step 0x1C NoByte ∷ []
steps_before_fetch StackToK taken = long_step 0x07 StackHigh ∷ long_step 0x0B StackLow ∷ []
steps_before_fetch StackFromK taken = long_step 0x15 KHigh ∷ long_step 0x18 KLow ∷ []
steps_before_fetch CallK taken = long_step 0x12 KLow ∷ long_step 0x14 KHigh ∷ []
steps_before_fetch JumpQ taken = long_step 0x17 QLow ∷ long_step 0x14 QHigh ∷ []
steps_before_fetch DataToPair taken = long_step 0x06 DataHigh ∷ long_step 0x09 DataLow ∷ []
steps_before_fetch DataFromQ taken = long_step 0x16 QHigh ∷ long_step 0x19 QLow ∷ []
steps_before_fetch DataFromH taken = long_step 0x16 HHigh ∷ long_step 0x19 HLow ∷ []
steps_before_fetch ReadData taken = long_step 0x02 DataByte ∷ []
steps_before_fetch StoreData taken = long_step 0x05 Accumulator ∷ []
steps_before_fetch Return taken = short_step 0x04 NoByte ∷ []
steps_before_fetch Immediate taken = long_step 0x03 Operand ∷ []
steps_before_fetch PortIn taken = long_step 0x03 Operand ∷ long_step 0x1B PortByte ∷ []
steps_before_fetch PortOut taken = long_step 0x03 Operand ∷ long_step 0x1A Accumulator ∷ []
steps_before_fetch Call taken =
    long_step 0x03 Operand ∷ short_step 0x0D NoByte ∷ long_step 0x0C SecondOperand ∷ long_step 0x14 KeptOperand ∷ []
steps_before_fetch Jump taken = long_step 0x03 Operand ∷ long_step 0x0C SecondOperand ∷ long_step 0x14 KeptOperand ∷ []
steps_before_fetch LoadData taken =
    long_step 0x11 Operand ∷ short_step 0x03 Operand ∷ long_step 0x0E SecondOperand ∷ short_step 0x03 SecondOperand ∷ []
steps_before_fetch Exchange taken = short_step 0x1D NoByte ∷ []
steps_before_fetch AddData taken = long_step 0x0A Accumulator ∷ []
steps_before_fetch Branch taken =
    short_step 0x1C NoByte ∷ (if taken then long_step 0x01 Operand else short_step 0x03 Operand) ∷ []
steps_before_fetch BranchIsar taken = (if taken then long_step 0x01 Operand else short_step 0x03 Operand) ∷ []
steps_before_fetch ShortIn taken = long_step 0x1C PortNumber ∷ long_step 0x1B PortByte ∷ []
steps_before_fetch ShortOut taken = long_step 0x1C PortNumber ∷ long_step 0x1A Accumulator ∷ []

abbrev pub last_fetch : Row → Step
last_fetch row = record { romc = 0x00; long = has_long_fetch row; source = Opcode }

abbrev pub steps_of : Row → Bool → List Step
steps_of row taken = steps_before_fetch row taken ++ last_fetch row ∷ []

-- an interrupt takes the place of the last fetch
abbrev pub interrupt_steps : List Step
interrupt_steps =
    long_step 0x10 NoByte ∷ short_step 0x1C NoByte ∷ long_step 0x0F VectorLow ∷ long_step 0x13 VectorHigh ∷ short_step 0x00 Opcode ∷ []

abbrev pub reset_steps : List Step
reset_steps = short_step 0x1C NoByte ∷ long_step 0x08 NoByte ∷ short_step 0x00 Opcode ∷ []

abbrev pub clocks_along : List Step → ℕ
clocks_along steps = sum_by (λ step. step_clocks step.long) steps
