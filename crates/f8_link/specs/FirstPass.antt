-- The first pass over a module: its lines, each read once, the names that it gives, and those that it imports.
use Rattle.std.specs.Prelude.{ℕ, ℤ, pos, ◌+◌, List, [], ◌∷◌, ◌++◌, length, drop, Option, Some, None, is_some, Result, Ok, Err}
use Rattle.std.specs.Prelude.{if◌then◌else◌}
use Rattle.asm_text.specs.declared.answers.Token.{Token}
use Rattle.f8_asm.specs.Answers.{◌>>=◌}
use Rattle.f8_asm.specs.Names.{value_of, with_name}
use Rattle.f8_asm.specs.ParsedLines.{parsed, names_after}
use Rattle.f8_asm.specs.PassOne.{in_line, line_tokens}
use Rattle.f8_asm.specs.Statements.{label_of, twice}
use Rattle.f8_asm.specs.Steps.{steps}
use Rattle.f8_asm.specs.declared.answers.AsmFault.{AsmFault}
use Rattle.f8_asm.specs.declared.faults.LineFault.{LineFault}
use Rattle.f8_asm.specs.declared.line.ParsedLine.{ParsedLine}
use Rattle.f8_link.specs.declared.directives.Directive.{Directive}
use Rattle.f8_link.specs.declared.directives.Directive.TheVariants.{Export, Import}
use Rattle.f8_link.specs.declared.lines.LineTask.{LineTask}
use Rattle.f8_link.specs.declared.lines.LineTask.TheVariants as line
use Rattle.f8_link.specs.Directives.{directive_of, names_taken, stray, unless_stray}

-- What is known after some lines: how many they are; the labels and imports, for whose values 0 stands; the imports with their numbers;
-- and what is left to do for each statement and each name that is exported.
pub record Reading : Type 0 where
  pub count : ℕ
  pub known : List (List ℕ × ℤ)
  pub imports : List (List ℕ × ℕ)
  pub lines : List LineTask

unfoldable pub no_reading : Reading
no_reading = record { count = 0; known = []; imports = []; lines = [] }

-- one line more has been read
abbrev pub counted : Reading → Reading
counted s = record { count = s.count + 1; known = s.known; imports = s.imports; lines = s.lines }

-- a statement, with the names known after its label
abbrev pub with_statement : ParsedLine → List (List ℕ × ℤ) → Reading → Reading
with_statement l known s = record { count = s.count; known = known; imports = s.imports; lines = s.lines ++ line.Statement l ∷ [] }

-- a name that line `number` exports
abbrev pub with_export : ℕ → ℕ → List ℕ → Reading → Reading
with_export number column name s =
    record { count = s.count; known = s.known; imports = s.imports; lines = s.lines ++ line.Export number column name ∷ [] }

-- a name that is imported, with the number behind those before it
abbrev pub with_import : List ℕ → Reading → Reading
with_import name s = record {
  count = s.count;
  known = with_name s.known name (pos 0);
  imports = with_name s.imports name (length s.imports);
  lines = s.lines;
}

-- takes a name that a directive of line `number` has at a column
abbrev pub name_taken : Directive → ℕ → Reading → ℕ → List ℕ → Result Reading LineFault
name_taken Export number s column name = Ok (with_export number column name s)
name_taken Import number s column name = if is_some (value_of s.known name) then Err (twice (Some column)) else Ok (with_import name s)

-- takes a statement's line
abbrev pub statement_taken : ℕ → Reading → List Token → Result Reading LineFault
statement_taken number s ts =
    names_after s.known ts (label_of ts) >>= λ known. unless_stray (stray ts) (parsed number ts) >>= λ l. Ok (with_statement l known s)

abbrev pub line_taken : ℕ → Reading → List Token → Option Directive → Result Reading LineFault
line_taken number s ts (Some directive) = names_taken (name_taken directive number) s (drop 1 ts)
line_taken number s ts None = statement_taken number s ts

-- takes the tokens of a line
unfoldable pub tokens_taken : ℕ → Reading → List Token → Result Reading LineFault
tokens_taken number s ts = line_taken number s ts (directive_of ts)

-- reads one line more; it has the number behind those before it
abbrev pub read_numbered : ℕ → Reading → List ℕ → Result Reading AsmFault
read_numbered number s bytes = line_tokens number bytes >>= λ ts. in_line number ts (tokens_taken number s ts) >>= λ t. Ok (counted t)

unfoldable pub read_line : Reading → List ℕ → Result Reading AsmFault
read_line s bytes = read_numbered (s.count + 1) s bytes

abbrev pub read_lines : Reading → List (List ℕ) → Result Reading AsmFault
read_lines s ls = steps read_line s ls
