-- Faults of a text, of one of its lines, and by number.
use Rattle.std.specs.Prelude.{ℕ, List, Vec, Option, Result}
use Rattle.std.specs.Borrow.{Bor}
use Rattle.std.specs.Global.{Global}
use Rattle.f8_asm.specs.declared.answers.AsmCause.{AsmCause}
use Rattle.f8_asm.specs.declared.answers.AsmCause.TheVariants.{Utf8, Token, Unknown, Twice, Undefined, Range, BranchRange, Outside, Overlap}
use Rattle.f8_asm.specs.declared.answers.AsmCause.TheVariants.{Form}
use Rattle.text_lines.specs.declared.read_error.ReadError.{ReadError}
use Rattle.f8_asm.specs.declared.faults.LineFault.{LineFault}
use Rattle.text_lines.specs.ReadErrors.{SaysSeen}
pub use Rattle.text_lines.specs.Steps.{◌>>=◌}

-- the number of a cause; 10 is none
abbrev pub cause_number : AsmCause → ℕ
cause_number Utf8 = 1
cause_number Token = 2
cause_number Unknown = 3
cause_number Twice = 4
cause_number Undefined = 5
cause_number Range = 6
cause_number BranchRange = 7
cause_number Outside = 8
cause_number Overlap = 9
cause_number Form = 11

-- a token that fits nothing, or the end of the line where something is missing
abbrev pub form : Option ℕ → LineFault
form column = record { column = column; cause = Form }

-- what is read, and what is left behind it, are what is said of them
abbrev pub SaysOfRead : {A B : Type 0} → Result (A × Bor B) (ReadError LineFault) → Result (A × B) LineFault → Type 0
SaysOfRead result said = SaysSeen (λ r. (r.0, r.1.now)) result said

-- bytes are those that are said of a line; want of memory says nothing of it
abbrev pub SaysOfBytes : Result (Vec ℕ Global) (ReadError LineFault) → Result (List ℕ) LineFault → Type 0
SaysOfBytes result said = SaysSeen (λ bytes. bytes.items) result said
