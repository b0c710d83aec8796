-- What an opcode says of its instruction, as it is worked out once for each.
use Rattle.std.specs.Prelude.{◌≡◌, ◌↔◌, ℕ, ◌<◌, ◌≤◌, true, false, List, length, slice_index_or, Option, Some, None, IsNone, IfSome}
use Rattle.f8_spec.specs.Instructions.{InRange, IsReserved, decoded, row_of}
use Rattle.f8_spec.specs.declared.instructions.Op.{Op}
use Rattle.console_spec.specs.Processor.{port_field}
use Rattle.cpu3850.specs.CpuSteps.{listed, last_step, effect_at, pair_of}
use Rattle.cpu3850.specs.StepRows.{IsStepRow, steps_in}
use Rattle.cpu3850.specs.declared.instruction_table.Instruction.{Instruction}

pub record Decodes (code : ℕ) (instruction : Option Op) : Type 0 where
  pub decoded : instruction ≡ decoded code
  pub in_range : IfSome instruction InRange
  pub reserved : IsNone instruction ↔ IsReserved code

-- an instruction whose fields lie in their ranges, with what its opcode says of it
pub record IsInstruction (i : Instruction) : Type 0 where
  pub in_range : InRange i.op
  pub row : i.row ≡ row_of i.op
  pub port : i.port ≡ port_field i.op
  pub pair : i.pair ≡ pair_of i.op
  pub pair_below : i.pair ≤ 14
  pub last_step : i.last_step ≡ last_step (row_of i.op)
  pub effect_at : i.effect_at ≡ effect_at (row_of i.op)
  pub steps_kept : IsStepRow i.steps
  pub steps : steps_in i.steps ≡ listed i.op false
  pub taken_kept : IsStepRow i.steps_taken
  pub steps_taken : steps_in i.steps_taken ≡ listed i.op true

-- the instruction that has the opcode, or none where it is reserved
abbrev pub IsRow : ℕ → Option Instruction → Type 0
IsRow code None = Decodes code None
IsRow code (Some i) = Decodes code (Some i.op) × IsInstruction i

pub record IsTable (rows : List (Option Instruction)) : Type 0 where
  pub size : length rows ≡ 256
  pub row : (code : ℕ) → code < 256 → IsRow code (slice_index_or rows code None)
