-- A text that is read line by line into a draft: what the lines say together, or the first fault.
use Rattle.std.specs.Prelude.{◌≡◌, ℕ, ◌+◌, List, [], ◌∷◌, ◌++◌, Option, Some, None, Result, Ok, Err, if◌then◌else◌}
use Rattle.std.specs.List.{list_all}
use Rattle.text_lines.specs.Printable.{is_printable}
use Rattle.text_lines.specs.Steps.{◌>>=◌}
use Rattle.line_words.specs.Words.{is_skipped, words}
use Rattle.line_words.specs.declared.text_fault.TextFault.{TextFault}

-- ---- one line

-- what the words of a line say, if they say something
abbrev pub as_said : {S C : Type 0} → Result S C → Result (Option S) C
as_said (Ok statement) = Ok (Some statement)
as_said (Err cause) = Err cause

-- a line says nothing where it is skipped; a byte that isn't printable makes no word
abbrev pub line_by : {S C : Type 0} → C → (List (List ℕ) → Result S C) → List ℕ → Result (Option S) C
line_by no_word said line =
    if is_skipped line then Ok None else
    if list_all is_printable line then as_said (said (words line)) else
    Err no_word

-- a draft, with what a line says
abbrev pub draft_by : {D S C : Type 0} → (D → S → Result D C) → D → Result (Option S) C → Result D C
draft_by said_with draft (Err cause) = Err cause
draft_by said_with draft (Ok None) = Ok draft
draft_by said_with draft (Ok (Some statement)) = said_with draft statement

-- ---- some lines

-- what a line says, if anything
abbrev pub said_in : {S C : Type 0} → Result (Option S) C → List S
said_in (Ok (Some statement)) = statement ∷ []
said_in (Ok None) = []
said_in (Err cause) = []

-- what lines say, in their order
abbrev pub statements_by : {S C : Type 0} → (List ℕ → Result (Option S) C) → List (List ℕ) → List S
statements_by line_of [] = []
statements_by line_of (l ∷ ls) = said_in (line_of l) ++ statements_by line_of ls

-- ---- all lines

-- what is said of a line by its number
abbrev pub at_line : {A C : Type 0} → ℕ → Result A C → Result A (TextFault C)
at_line number (Ok x) = Ok x
at_line number (Err cause) = Err (record { line = number; cause = cause })

-- a draft after lines from this number on, by what it is after one; a fault is that of the first line that has one
unfoldable pub after_lines : {D C : Type 0} → (D → List ℕ → Result D C) → ℕ → D → List (List ℕ) →
    Result D (TextFault C)
after_lines after_line number draft [] = Ok draft
after_lines after_line number draft (l ∷ ls) =
    at_line number (after_line draft l) >>= (λ next. after_lines after_line (number + 1) next ls)

-- memory is wanting at a line that takes it, and to which the lines before it lead
pub record IsShortAt {D C : Type 0} (after_line : D → List ℕ → Result D C) (Takes : List ℕ → Type 0) (draft : D)
    (ls : List (List ℕ)) : Type 0 where
  pub before : List (List ℕ)
  pub line : List ℕ
  pub behind : List (List ℕ)
  pub reached : D
  pub parts : ls ≡ before ++ line ∷ behind
  pub reaches : after_lines after_line 1 draft before ≡ Ok reached
  pub takes : Takes line
