-- The second pass over a module: the offset of each line, and what the labels stand for.
use Rattle.std.specs.Prelude.{ℕ, ◌+◌, ◌≤◌, List, [], ◌∷◌, ◌++◌, Option, Some, None, Result, Ok, Err, if◌then◌else◌}
use Rattle.f8_asm.specs.Answers.{◌>>=◌}
use Rattle.f8_asm.specs.Image.{everywhere}
use Rattle.f8_asm.specs.Names.{with_name}
use Rattle.f8_asm.specs.PassTwo.{is_inside}
use Rattle.f8_asm.specs.Statements.{operand_valued, statement_size}
use Rattle.f8_asm.specs.Steps.{steps}
use Rattle.f8_asm.specs.declared.answers.AsmCause.TheVariants as cause
use Rattle.f8_asm.specs.declared.formulas.Step.{Step}
use Rattle.f8_asm.specs.declared.line.ParsedLine.{ParsedLine}
use Rattle.f8_asm.specs.declared.operands.Operand.{Operand}
use Rattle.f8_asm.specs.declared.operands.Statement.{Statement}
use Rattle.f8_asm.specs.declared.operands.Statement.TheVariants.{One}
use Rattle.f8_asm.specs.declared.words.Single.TheVariants as single
use Rattle.f8_link.specs.declared.answers.ModCause.TheVariants.{Asm, Shape}
use Rattle.f8_link.specs.declared.answers.ModFault.{ModFault}
use Rattle.f8_link.specs.declared.faults.ModuleLineFault.{ModuleLineFault}
use Rattle.f8_link.specs.declared.lines.LineTask.{LineTask}
use Rattle.f8_link.specs.declared.lines.LineTask.TheVariants as line
use Rattle.f8_link.specs.declared.lines.PlacedLine.{PlacedLine}
use Rattle.f8_link.specs.declared.values.Named.{Named}
use Rattle.f8_link.specs.declared.values.Named.TheVariants.{Constant, Offset}
use Rattle.f8_link.specs.Answers.{fault_at, in_line_to}
use Rattle.f8_link.specs.Evaluation.{formula_found, names_import}
use Rattle.f8_link.specs.Pieces.{constant_of}

-- what is known after some lines: the next offset, the names so far, and the lines with their offsets
pub record Layout : Type 0 where
  pub here : ℕ
  pub names : List (List ℕ × Named)
  pub placed : List PlacedLine

unfoldable pub no_layout : Layout
no_layout = record { here = 0; names = []; placed = [] }

-- a label's name stands for this
abbrev pub with_label : Option (List ℕ) → Named → Layout → Layout
with_label None v s = s
with_label (Some name) v s = record { here = s.here; names = with_name s.names name v; placed = s.placed }

-- so many bytes are taken
abbrev pub moved_by : ℕ → Layout → Layout
moved_by size s = record { here = s.here + size; names = s.names; placed = s.placed }

abbrev pub with_placed : PlacedLine → Layout → Layout
with_placed p s = record { here = s.here; names = s.names; placed = s.placed ++ p ∷ [] }

-- EQU gives a constant. An import anywhere in it is told before all else, since the one source may define it on a later line.
abbrev pub constant_at : List (List ℕ × ℕ) → Layout → Operand (List Step) → Result Named ModuleLineFault
constant_at imports s o =
    if names_import imports o.value then Err (fault_at o.column Shape)
    else (constant_of (operand_valued (formula_found s.names [] s.here) o) >>= λ v. Ok (Constant v))

-- all else takes its bytes, as far as offset 65,535
abbrev pub filled : Option (List ℕ) → Option ℕ → ℕ → Layout → Result Layout ModuleLineFault
filled label column size s =
    if is_inside everywhere s.here size then Ok (moved_by size (with_label label (Offset s.here) s))
    else Err (record { column = column; cause = Asm cause.Outside })

abbrev pub statement_settled : List (List ℕ × ℕ) → Option (List ℕ) → Option ℕ → Layout → Statement (List Step) → Result Layout ModuleLineFault
statement_settled imports label column s (One single.Equ o) = constant_at imports s o >>= λ v. Ok (with_label label v s)
statement_settled imports label column s other = filled label column (statement_size other) s

unfoldable pub settle : List (List ℕ × ℕ) → Layout → ParsedLine → Result Layout ModuleLineFault
settle imports s l = statement_settled imports l.label l.column s l.statement

-- what a line does: one that exports a name waits for the third pass
abbrev pub line_settled : List (List ℕ × ℕ) → Layout → LineTask → Result Layout ModFault
line_settled imports s (line.Statement l) = in_line_to l.number l.end (settle imports s l)
line_settled imports s (line.Export number column name) = Ok s

unfoldable pub place : List (List ℕ × ℕ) → Layout → LineTask → Result Layout ModFault
place imports s l = line_settled imports s l >>= λ t. Ok (with_placed (record { offset = s.here; line = l }) t)

abbrev pub place_lines : List (List ℕ × ℕ) → Layout → List LineTask → Result Layout ModFault
place_lines imports s ls = steps (place imports) s ls

-- a line's bytes end by offset 65,536
abbrev pub line_size : LineTask → ℕ
line_size (line.Statement l) = statement_size l.statement
line_size (line.Export number column name) = 0

abbrev pub Ends : PlacedLine → Type 0
Ends p = p.offset + line_size p.line ≤ 65536
