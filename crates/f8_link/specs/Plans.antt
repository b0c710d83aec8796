-- The plan of some modules: what a line says, and the list of a text, or its first fault.
use Rattle.std.specs.Borrow.{Bor}
use Rattle.std.specs.Prelude.{ℕ, ◌+◌, ◌<◌, ◌==◌, ◌&&◌, ◌||◌, Bool, nat_le, if◌then◌else◌, List, [], ◌∷◌, ◌++◌, length, codes, bytes_eq}
use Rattle.std.specs.Prelude.{string_bytes}
use Rattle.std.specs.Prelude.{Option, Some, None, Result, Ok, Err}
use Rattle.f8_asm.specs.declared.answers.Room.{Room}
use Rattle.line_words.specs.Drafts.{after_lines, draft_by, line_by, said_in}
use Rattle.line_words.specs.Numbers.{address_of}
use Rattle.line_words.specs.declared.text_fault.TextFault.{TextFault}
use Rattle.f8_link.specs.declared.plan.ModuleLine.{ModuleLine}
use Rattle.f8_link.specs.declared.plan.PlanCause.{PlanCause}
use Rattle.f8_link.specs.declared.plan.PlanCause.TheVariants.{Word, Number, Range, TooMany, NoModule}
use Rattle.text_lines.specs.Lines.{lines}
use Rattle.text_lines.specs.Steps.{◌>>=◌}

-- the number of a cause
abbrev pub cause_number : PlanCause → ℕ
cause_number Word = 1
cause_number Number = 2
cause_number Range = 3
cause_number TooMany = 4
cause_number NoModule = 5

-- the first fault of a plan, at its line
abbrev pub PlanFault : Type 0
PlanFault = TextFault PlanCause

-- a module's file and its room
pub record PlannedModule : Type 0 where
  pub file : List ℕ
  pub room : Room

abbrev pub module_seen : ModuleLine → PlannedModule
module_seen m = record { file = string_bytes m.file; room = m.room }

-- ---- one line

abbrev pub is_empty : List ℕ → Bool
is_empty word = length word == 0

-- a file of at most 64 characters, and a room that ends at or behind the address where it begins
abbrev pub entry_with : List ℕ → Option ℕ → Option ℕ → Result PlannedModule PlanCause
entry_with file (Some first) (Some last) =
    if nat_le (length file) 64 && nat_le first last then Ok (record { file = file; room = record { first = first; last = last } })
    else Err Range
entry_with file first last = Err Number

-- a word has a character at least
abbrev pub entry : List ℕ → List ℕ → List ℕ → Result PlannedModule PlanCause
entry file first last =
    if is_empty file || (is_empty first || is_empty last) then Err Word else entry_with file (address_of first) (address_of last)

-- `module FILE AAAA BBBB`
abbrev pub said : List (List ℕ) → Result PlannedModule PlanCause
said (name ∷ (file ∷ (first ∷ (last ∷ [])))) = if bytes_eq name (codes "module") then entry file first last else Err Word
said words = Err Word

-- a line, which says nothing where it is skipped
unfoldable pub line_of : List ℕ → Result (Option PlannedModule) PlanCause
line_of line = line_by Word said line

-- what is read of a line, as values
abbrev pub entry_of : Bor (List ℕ) × Room → PlannedModule
entry_of e = record { file = e.0.now; room = e.1 }

abbrev pub entry_seen : Result (Bor (List ℕ) × Room) PlanCause → Result PlannedModule PlanCause
entry_seen (Ok e) = Ok (entry_of e)
entry_seen (Err cause) = Err cause

abbrev pub line_seen : Result (Option (Bor (List ℕ) × Room)) PlanCause → Result (Option PlannedModule) PlanCause
line_seen (Ok (Some e)) = Ok (Some (entry_of e))
line_seen (Ok None) = Ok None
line_seen (Err cause) = Err cause

-- ---- some lines

unfoldable pub no_lines : List PlannedModule
no_lines = []

-- the 65th module is TooMany
abbrev pub said_with : List PlannedModule → PlannedModule → Result (List PlannedModule) PlanCause
said_with plan m = if length plan == 64 then Err TooMany else Ok (plan ++ m ∷ [])

unfoldable pub read_line : List PlannedModule → List ℕ → Result (List PlannedModule) PlanCause
read_line plan line = draft_by said_with plan (line_of line)

-- a line that names a module takes memory, and no other
abbrev pub TakesMemory : List ℕ → Type 0
TakesMemory line = 0 < length (said_in (line_of line))

-- ---- all lines

-- the text ends before this line
abbrev pub plan_at : ℕ → List PlannedModule → Result (List PlannedModule) PlanFault
plan_at number [] = Err (record { line = number; cause = NoModule })
plan_at number (m ∷ ms) = Ok (m ∷ ms)

-- the plan of lines, or their first fault
abbrev pub plan_by : List (List ℕ) → Result (List PlannedModule) PlanFault
plan_by ls = after_lines read_line 1 no_lines ls >>= λ plan. plan_at (length ls + 1) plan

-- and that of a text
unfoldable pub plan_of : List ℕ → Result (List PlannedModule) PlanFault
plan_of text = plan_by (lines text)
