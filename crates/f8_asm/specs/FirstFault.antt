-- Where the first fault of a text is. The text is read three times: for the statement of each line, for the place of each, and for the bytes
-- of each. What is told is the fault of the first line that has one in the first reading in which a line has one.
use Rattle.std.specs.Prelude.{◌≡◌, ℕ, ℤ, ◌+◌, List, ◌∷◌, ◌++◌, length, Option, Result, Ok, Err}
use Rattle.text_lines.specs.Lines.{lines}
use Rattle.text_lines.specs.declared.read_error.ReadError.{ReadError}
use Rattle.text_lines.specs.declared.read_error.ReadError.TheVariants as answer
use Rattle.f8_asm.specs.declared.answers.AsmFault.{AsmFault}
use Rattle.f8_asm.specs.declared.answers.Room.{Room}
use Rattle.f8_asm.specs.Image.{Picture}
use Rattle.f8_asm.specs.PassOne.{Reading, no_reading, read_line, read_lines}
use Rattle.f8_asm.specs.PassTwo.{Layout, no_layout, place, place_lines}
use Rattle.f8_asm.specs.PassThree.{no_bytes as no_bytes_yet, emit, emit_lines}
use Rattle.f8_asm.specs.TokenLines.{Line, PlacedLine}

-- no line of a text is at fault in the first reading, nor in the first two
abbrev pub AreStatements : List (List ℕ) → Reading → Type 0
AreStatements ls read = read_lines no_reading ls ≡ Ok read

abbrev pub ArePlaced : Room → List Line → Layout PlacedLine → Type 0
ArePlaced room ls laid = place_lines room (no_layout 65536) ls ≡ Ok laid

-- lines have their bytes, with these names
abbrev pub HaveBytes : List (List ℕ × ℤ) → List PlacedLine → List (Option ℕ) → Type 0
HaveBytes names ps table = emit_lines names (no_bytes_yet 65536) ps ≡ Ok table

pub data IsFirstFault (text : List ℕ) (room : Room) (fault : AsmFault) : Type 0 where
  -- a line is no statement, or its label was given before; the lines before it are in order so far
  no_statement : (before : List (List ℕ)) (l : List ℕ) (behind : List (List ℕ)) (read : Reading) → lines text ≡ before ++ l ∷ behind → AreStatements before read
      → read_line read l ≡ Err fault → fault.line ≡ length before + 1 → IsFirstFault text room fault
  -- every line is a statement; one has no place behind those before it, which have theirs
  no_place : (read : Reading) (before : List Line) (l : Line) (behind : List Line) (laid : Layout PlacedLine) → AreStatements (lines text) read
      → read.lines ≡ before ++ l ∷ behind → ArePlaced room before laid → place room laid l ≡ Err fault → fault.line ≡ length before + 1
      → IsFirstFault text room fault
  -- every line is a statement and has its place; one has no bytes, and those before it have theirs
  no_bytes : (read : Reading) (laid : Layout PlacedLine) (before : List PlacedLine) (p : PlacedLine) (behind : List PlacedLine) (table : List (Option ℕ))
      → AreStatements (lines text) read → ArePlaced room read.lines laid → laid.placed ≡ before ++ p ∷ behind
      → HaveBytes laid.names before table → emit laid.names table p ≡ Err fault → fault.line ≡ length before + 1
      → IsFirstFault text room fault

-- every line is a statement, has its place, and has its bytes
pub record HasNoFault (text : List ℕ) (room : Room) : Type 0 where
  pub read : Reading
  pub laid : Layout PlacedLine
  pub table : List (Option ℕ)
  pub statements : AreStatements (lines text) read
  pub placed : ArePlaced room read.lines laid
  pub bytes : HaveBytes laid.names laid.placed table

-- an answer tells the first fault of a text, or that there is none; want of memory says nothing of it
abbrev pub TellsFault : Result Picture (ReadError AsmFault) → List ℕ → Room → Type 0
TellsFault (Ok image) text room = HasNoFault text room
TellsFault (Err (answer.Fault fault)) text room = IsFirstFault text room fault
TellsFault (Err answer.Memory) text room = Unit {0}
