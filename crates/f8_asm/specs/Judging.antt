-- Operands judged: whether their values fit their places.
use Rattle.std.specs.Prelude.{ℕ, ℤ, pos, ◌+◌, ◌-ℤ◌, Option, Some, None, Result, Ok, Err}
use Rattle.f8_spec.specs.declared.instructions.Op.{Op}
use Rattle.f8_asm.specs.declared.answers.AsmCause.{AsmCause}
use Rattle.f8_asm.specs.declared.answers.AsmCause.TheVariants as cause
use Rattle.f8_asm.specs.declared.faults.LineFault.{LineFault}
use Rattle.f8_asm.specs.declared.fields.Field.{Field}
use Rattle.f8_asm.specs.declared.operands.Operand.{Operand}
use Rattle.f8_asm.specs.declared.values.Outcome.{Outcome}
use Rattle.f8_asm.specs.declared.values.Outcome.TheVariants.{Value, OutOfRange, Undefined}
use Rattle.f8_asm.specs.Answers.{◌>>=◌}
use Rattle.f8_asm.specs.Fields.{last_of, op_with, small, octet}

-- a fault at a column
abbrev pub fault_at : ℕ → AsmCause → LineFault
fault_at column what = record { column = Some column; cause = what }

-- the value of an expression that begins at this column
abbrev pub value_in : ℕ → Outcome → Result ℤ LineFault
value_in column (Value v) = Ok v
value_in column OutOfRange = Err (fault_at column cause.Range)
value_in column (Undefined at) = Err (fault_at at cause.Undefined)

abbrev pub operand_value : Operand Outcome → Result ℤ LineFault
operand_value o = value_in o.column o.value

-- what fits, and else a fault at the operand's first token
abbrev pub fitting : {A : Type 0} → ℕ → AsmCause → Option A → Result A LineFault
fitting column what (Some x) = Ok x
fitting column what None = Err (fault_at column what)

-- a value from 0 to `last`
abbrev pub unsigned_value : ℕ → Operand Outcome → Result ℕ LineFault
unsigned_value last o = operand_value o >>= λ v. fitting o.column cause.Range (small last v)

-- a byte: a value from -128 to 255
abbrev pub byte : Operand Outcome → Result ℕ LineFault
byte o = operand_value o >>= λ v. fitting o.column cause.Range (octet 255 v)

-- how far a place lies from the displacement byte behind an opcode at this address: -128 to 127
abbrev pub displacement : ℕ → Operand Outcome → Result ℕ LineFault
displacement address o = operand_value o >>= λ v. fitting o.column cause.BranchRange (octet 127 (v -ℤ pos (address + 1)))

-- the instruction with a value in its field
abbrev pub with_field : Field → Operand Outcome → Result Op LineFault
with_field field o = unsigned_value (last_of field) o >>= λ n. fitting o.column cause.Range (op_with field n)
