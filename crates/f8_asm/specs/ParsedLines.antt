-- The three passes over lines of which each was read once. They give what the passes over tokens give.
use Rattle.std.specs.Prelude.{ℕ, ℤ, pos, ◌+◌, List, [], ◌∷◌, ◌++◌, length, Option, Some, None, is_some, Result, Ok, Err, if◌then◌else◌}
use Rattle.asm_text.specs.declared.answers.Token.{Token}
use Rattle.f8_asm.specs.declared.answers.AsmFault.{AsmFault}
use Rattle.f8_asm.specs.declared.answers.Room.{Room}
use Rattle.f8_asm.specs.declared.faults.LineFault.{LineFault}
use Rattle.f8_asm.specs.declared.formulas.Step.{Step}
use Rattle.f8_asm.specs.declared.line.ParsedLine.{ParsedLine}
use Rattle.f8_asm.specs.declared.line.PlacedLine.{PlacedLine}
use Rattle.f8_asm.specs.declared.operands.Statement.{Statement}
use Rattle.f8_asm.specs.declared.values.Outcome.{Outcome}
use Rattle.f8_asm.specs.declared.values.Outcome.TheVariants.{OutOfRange}
use Rattle.f8_asm.specs.Answers.{◌>>=◌}
use Rattle.f8_asm.specs.Bytes.{bytes_of}
use Rattle.f8_asm.specs.Evaluation.{values}
use Rattle.f8_asm.specs.Formulas.{formulas, formula_value}
use Rattle.f8_asm.specs.Grammar.{column_of}
use Rattle.f8_asm.specs.Image.{Picture, ascending}
use Rattle.f8_asm.specs.Names.{value_of, with_name}
use Rattle.f8_asm.specs.PassOne.{end_of, in_line, in_line_to, line_tokens}
use Rattle.f8_asm.specs.PassThree.{no_bytes, table_with}
use Rattle.f8_asm.specs.PassTwo.{Layout, no_layout, layout_after, with_placed}
use Rattle.f8_asm.specs.Statements.{statement, statement_valued, label_of, behind_label, effect_of, twice}
use Rattle.f8_asm.specs.Steps.{steps}
use Rattle.text_lines.specs.Lines.{lines}

-- ---- the first pass

-- a line of tokens that make this statement
abbrev pub line_of : ℕ → List Token → Statement (List Step) → ParsedLine
line_of number ts st = record { number = number; end = end_of ts; label = label_of ts; column = column_of (behind_label ts); statement = st }

-- the line of tokens, if they make a statement
unfoldable pub parsed : ℕ → List Token → Result ParsedLine LineFault
parsed number ts = statement formulas (is_some (label_of ts)) (behind_label ts) >>= λ st. Ok (line_of number ts st)

-- the names behind a line with this label, if it is new
abbrev pub names_after : List (List ℕ × ℤ) → List Token → Option (List ℕ) → Result (List (List ℕ × ℤ)) LineFault
names_after names ts None = Ok names
names_after names ts (Some name) = if is_some (value_of names name) then Err (twice (column_of ts)) else Ok (with_name names name (pos 0))

-- what is known after some lines
pub record Parsing : Type 0 where
  pub names : List (List ℕ × ℤ)
  pub lines : List ParsedLine

abbrev pub parse_tokens : ℕ → Parsing → List Token → Result Parsing LineFault
parse_tokens number s ts =
    names_after s.names ts (label_of ts) >>= λ names. parsed number ts >>= λ line. Ok (record { names = names; lines = s.lines ++ line ∷ [] })

-- a line has the number behind those before it
abbrev pub parse_numbered : ℕ → Parsing → List ℕ → Result Parsing AsmFault
parse_numbered number s bytes = line_tokens number bytes >>= λ ts. in_line number ts (parse_tokens number s ts)

unfoldable pub parse_line : Parsing → List ℕ → Result Parsing AsmFault
parse_line s bytes = parse_numbered (length s.lines + 1) s bytes

abbrev pub parse_lines : Parsing → List (List ℕ) → Result Parsing AsmFault
parse_lines s ls = steps parse_line s ls

unfoldable pub no_parsing : Parsing
no_parsing = record { names = []; lines = [] }

-- ---- the second and the third

-- the statement of a line with the values of names, at an address
abbrev pub statement_with : List (List ℕ × ℤ) → ℕ → ParsedLine → Statement Outcome
statement_with names address l = statement_valued (formula_value OutOfRange (values names address)) l.statement

unfoldable pub settle_parsed : Room → Layout PlacedLine → ParsedLine → Result (Layout PlacedLine) LineFault
settle_parsed room s l = layout_after room l.label l.column s (effect_of (statement_with s.names s.here l))

unfoldable pub place_parsed : Room → Layout PlacedLine → ParsedLine → Result (Layout PlacedLine) AsmFault
place_parsed room s l = in_line_to l.number l.end (settle_parsed room s l) >>= λ t. Ok (with_placed (record { address = s.here; line = l }) t)

abbrev pub place_all_parsed : Room → Layout PlacedLine → List ParsedLine → Result (Layout PlacedLine) AsmFault
place_all_parsed room s ls = steps (place_parsed room) s ls

unfoldable pub parsed_bytes : List (List ℕ × ℤ) → PlacedLine → Result (List ℕ) LineFault
parsed_bytes names p = bytes_of p.address (statement_with names p.address p.line)

unfoldable pub emit_parsed : List (List ℕ × ℤ) → List (Option ℕ) → PlacedLine → Result (List (Option ℕ)) AsmFault
emit_parsed names table p = in_line_to p.line.number p.line.end (parsed_bytes names p) >>= λ bs. Ok (table_with table p.address bs)

abbrev pub emit_all_parsed : List (List ℕ × ℤ) → List (Option ℕ) → List PlacedLine → Result (List (Option ℕ)) AsmFault
emit_all_parsed names table ps = steps (emit_parsed names) table ps

-- ---- the image

unfoldable pub image_parsed : ℕ → List ℕ → Room → Result Picture AsmFault
image_parsed size text room =
    parse_lines no_parsing (lines text) >>= λ read. place_all_parsed room
    (no_layout size) read.lines >>= λ laid. emit_all_parsed laid.names (no_bytes size) laid.placed >>= λ table. Ok
    (record { bytes = ascending 0 table; symbols = laid.names })
