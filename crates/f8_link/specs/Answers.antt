-- Faults of a module, of one of its lines, and of linking, and their numbers.
use Rattle.std.specs.Prelude.{ℕ, Some, Result, Ok, Err}
use Rattle.f8_asm.specs.Answers.{cause_number}
use Rattle.f8_asm.specs.PassOne.{column_or}
use Rattle.f8_asm.specs.declared.answers.AsmFault.{AsmFault}
use Rattle.f8_asm.specs.declared.faults.LineFault.{LineFault}
use Rattle.f8_link.specs.declared.answers.LinkCause.{LinkCause}
use Rattle.f8_link.specs.declared.answers.LinkCause.TheVariants.{Twice, Missing, Outside, Overlap, Reach}
use Rattle.f8_link.specs.declared.answers.ModCause.{ModCause}
use Rattle.f8_link.specs.declared.answers.ModCause.TheVariants.{Asm, Shape}
use Rattle.f8_link.specs.declared.answers.ModFault.{ModFault}
use Rattle.f8_link.specs.declared.faults.ModuleLineFault.{ModuleLineFault}

-- the number of a module's cause
abbrev pub module_cause_number : ModCause → ℕ
module_cause_number (Asm cause) = cause_number cause
module_cause_number Shape = 12

-- and of a cause of linking
abbrev pub link_cause_number : LinkCause → ℕ
link_cause_number Twice = 1
link_cause_number Missing = 2
link_cause_number Outside = 3
link_cause_number Overlap = 4
link_cause_number Reach = 5

-- a fault at a column
abbrev pub fault_at : ℕ → ModCause → ModuleLineFault
fault_at column cause = record { column = Some column; cause = cause }

-- a fault that the assembler knows
abbrev pub line_fault_of : LineFault → ModuleLineFault
line_fault_of fault = record { column = fault.column; cause = Asm fault.cause }

abbrev pub fault_of : AsmFault → ModFault
fault_of fault = record { line = fault.line; column = fault.column; cause = Asm fault.cause }

-- what the assembler answers, with its fault as a module's
abbrev pub line_told : {A : Type 0} → Result A LineFault → Result A ModuleLineFault
line_told (Ok x) = Ok x
line_told (Err fault) = Err (line_fault_of fault)

abbrev pub told : {A : Type 0} → Result A AsmFault → Result A ModFault
told (Ok x) = Ok x
told (Err fault) = Err (fault_of fault)

-- a line's fault with the line's number; where no token is left it stands past the last, where the line ends
abbrev pub fault_by : ℕ → ℕ → ModuleLineFault → ModFault
fault_by number end fault = record { line = number; column = column_or end fault.column; cause = fault.cause }

abbrev pub in_line_to : {A : Type 0} → ℕ → ℕ → Result A ModuleLineFault → Result A ModFault
in_line_to number end (Ok x) = Ok x
in_line_to number end (Err fault) = Err (fault_by number end fault)
