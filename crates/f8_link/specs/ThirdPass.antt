-- The third pass over a module: its bytes, what linking puts into them, and what its exports stand for.
use Rattle.std.specs.Prelude.{ℕ, List, [], ◌∷◌, ◌++◌, map, Option, Some, None, Result, Ok, Err}
use Rattle.f8_asm.specs.Answers.{◌>>=◌}
use Rattle.f8_asm.specs.Names.{value_of}
use Rattle.f8_asm.specs.Statements.{statement_valued}
use Rattle.f8_asm.specs.Steps.{steps}
use Rattle.f8_asm.specs.declared.answers.AsmCause.TheVariants as cause
use Rattle.f8_asm.specs.declared.line.ParsedLine.{ParsedLine}
use Rattle.f8_link.specs.declared.answers.ModCause.TheVariants.{Asm}
use Rattle.f8_link.specs.declared.answers.ModFault.{ModFault}
use Rattle.f8_link.specs.declared.faults.ModuleLineFault.{ModuleLineFault}
use Rattle.f8_link.specs.declared.lines.LineTask.{LineTask}
use Rattle.f8_link.specs.declared.lines.LineTask.TheVariants as line
use Rattle.f8_link.specs.declared.lines.PlacedLine.{PlacedLine}
use Rattle.f8_link.specs.declared.objects.Fixup.{Fixup}
use Rattle.f8_link.specs.declared.values.Named.{Named}
use Rattle.f8_link.specs.Answers.{in_line_to, told}
use Rattle.f8_link.specs.Evaluation.{formula_found}
use Rattle.f8_link.specs.FirstPass.{no_reading, read_lines}
use Rattle.f8_link.specs.Objects.{Object}
use Rattle.f8_link.specs.Pieces.{Piece, piece_of}
use Rattle.f8_link.specs.SecondPass.{no_layout, place_lines}
use Rattle.text_lines.specs.Lines.{lines}

-- what some lines give
pub record Code : Type 0 where
  pub bytes : List ℕ
  pub exports : List (List ℕ × Named)
  pub fixups : List Fixup

unfoldable pub no_code : Code
no_code = record { bytes = []; exports = []; fixups = [] }

abbrev pub with_piece : Code → Piece → Code
with_piece s p = record { bytes = s.bytes ++ p.bytes; exports = s.exports; fixups = s.fixups ++ p.fixups }

abbrev pub with_value : Code → List ℕ → Named → Code
with_value s name v = record { bytes = s.bytes; exports = s.exports ++ (name, v) ∷ []; fixups = s.fixups }

-- the bytes of a statement's line at an offset, with all names of the module
unfoldable pub line_piece : List (List ℕ × Named) → List (List ℕ × ℕ) → ℕ → ParsedLine → Result Piece ModuleLineFault
line_piece names imports offset l = piece_of offset (statement_valued (formula_found names imports offset) l.statement)

-- a name that is exported, if the module gives it
abbrev pub exported : Code → ℕ → ℕ → List ℕ → Option Named → Result Code ModFault
exported s number column name (Some v) = Ok (with_value s name v)
exported s number column name None = Err (record { line = number; column = column; cause = Asm cause.Undefined })

abbrev pub line_emitted : List (List ℕ × Named) → List (List ℕ × ℕ) → ℕ → Code → LineTask → Result Code ModFault
line_emitted names imports offset s (line.Statement l) =
    in_line_to l.number l.end (line_piece names imports offset l) >>= λ p. Ok (with_piece s p)
line_emitted names imports offset s (line.Export number column name) = exported s number column name (value_of names name)

unfoldable pub emit : List (List ℕ × Named) → List (List ℕ × ℕ) → Code → PlacedLine → Result Code ModFault
emit names imports s p = line_emitted names imports p.offset s p.line

abbrev pub emit_lines : List (List ℕ × Named) → List (List ℕ × ℕ) → Code → List PlacedLine → Result Code ModFault
emit_lines names imports s ps = steps (emit names imports) s ps

-- the object of some code and its imports
abbrev pub object_of : Code → List (List ℕ × ℕ) → Object
object_of s imports = record { bytes = s.bytes; exports = s.exports; imports = map (λ i. i.0) imports; fixups = s.fixups }

-- a text's object, or its first fault: three passes over the whole text, and the first fault of the earliest is told
unfoldable pub compiled : List ℕ → Result Object ModFault
compiled text =
    told (read_lines no_reading (lines text)) >>= λ read. place_lines read.imports
    no_layout read.lines >>= λ laid. emit_lines laid.names read.imports no_code laid.placed >>= λ code. Ok (object_of code read.imports)
