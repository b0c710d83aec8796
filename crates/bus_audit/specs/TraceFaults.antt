-- Where the text of a trace is at fault, and where memory can be missing.
use Rattle.std.specs.Prelude.{◌≡◌, ℕ, ◌+◌, List, ◌∷◌, ◌++◌, length, Option, Some, None, Result, Ok, Err}
use Rattle.std.specs.List.{All}
use Rattle.text_lines.specs.declared.read_error.ReadError.{ReadError}
use Rattle.text_lines.specs.declared.read_error.ReadError.TheVariants as answer
use Rattle.bus_audit.specs.declared.read.TraceFault.{TraceFault}
use Rattle.bus_audit.specs.declared.step.TraceStep.{TraceStep}
use Rattle.bus_audit.specs.TraceText.{read_in}

-- ---- a line

-- a line tells of a step
abbrev pub HasStep : Option (Option TraceStep) → Type 0
HasStep None = ⊥
HasStep (Some None) = ⊥
HasStep (Some (Some step)) = Unit {0}

abbrev pub TellsStep : List ℕ → Type 0
TellsStep line = HasStep (read_in line)

-- a line begins with `bus ` and spells no step, or it does not
abbrev pub IsAtFault : List ℕ → Type 0
IsAtFault line = read_in line ≡ Some None

abbrev pub IsFaultless : List ℕ → Type 0
IsFaultless line = IsAtFault line → ⊥

-- ---- a text

-- a line is at fault, with no fault before it
pub record IsFirstFault (ls : List (List ℕ)) (fault : TraceFault) : Type 0 where
  pub before : List (List ℕ)
  pub line : List ℕ
  pub behind : List (List ℕ)
  pub parts : ls ≡ before ++ line ∷ behind
  pub clean : All IsFaultless before
  pub counted : fault.line ≡ length before + 1
  pub own : IsAtFault line

-- a line that tells of a step is come to, with no fault before it
pub record TakesMemory (ls : List (List ℕ)) : Type 0 where
  pub before : List (List ℕ)
  pub line : List ℕ
  pub behind : List (List ℕ)
  pub parts : ls ≡ before ++ line ∷ behind
  pub clean : All IsFaultless before
  pub tells : TellsStep line

-- where a text is read no line is at fault, and else its fault is that of the first line that is
abbrev pub TellsFault : {A : Type 0} → Result A (ReadError TraceFault) → List (List ℕ) → Type 0
TellsFault (Ok x) ls = All IsFaultless ls
TellsFault (Err (answer.Fault fault)) ls = IsFirstFault ls fault
TellsFault (Err answer.Memory) ls = Unit {0}
