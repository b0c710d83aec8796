-- The first pass: the tokens of each line, whether they make a statement, and whether a name is given twice.
use Rattle.std.specs.Prelude.{ℕ, ℤ, pos, ◌+◌, ◌-◌, Bool, true, false, List, [], ◌∷◌, ◌++◌, length, slice_get, Option}
use Rattle.std.specs.Prelude.{Some, None, is_some, Result, Ok, Err, if◌then◌else◌}
use Rattle.std.specs.Str.{is_utf8}
use Rattle.asm_text.specs.Tokens.{tokens_of}
use Rattle.asm_text.specs.declared.answers.Token.{Token}
use Rattle.asm_text.specs.declared.answers.TokenFault.{TokenFault}
use Rattle.asm_text.specs.declared.answers.TokenFault.TheVariants as fault
use Rattle.f8_asm.specs.declared.answers.AsmCause.TheVariants as cause
use Rattle.f8_asm.specs.declared.answers.AsmFault.{AsmFault}
use Rattle.f8_asm.specs.declared.faults.LineFault.{LineFault}
use Rattle.f8_asm.specs.Answers.{◌>>=◌}
use Rattle.f8_asm.specs.Evaluation.{values}
use Rattle.f8_asm.specs.Grammar.{column_of}
use Rattle.f8_asm.specs.Names.{value_of, with_name}
use Rattle.f8_asm.specs.Statements.{statement, label_of, behind_label, twice}
use Rattle.f8_asm.specs.Steps.{steps}
use Rattle.f8_asm.specs.TokenLines.{Line}

-- ---- faults in their line

-- the column past the last token
abbrev pub end_in : Option Token → ℕ
end_in None = 1
end_in (Some t) = t.end

abbrev pub end_of : List Token → ℕ
end_of ts = end_in (slice_get ts (length ts - 1))

abbrev pub column_or : ℕ → Option ℕ → ℕ
column_or end None = end
column_or end (Some column) = column

-- a line's fault with the line's number; where no token is left it stands past the last, where the line ends
abbrev pub fault_by : ℕ → ℕ → LineFault → AsmFault
fault_by number end fault = record { line = number; column = column_or end fault.column; cause = fault.cause }

abbrev pub in_line_to : {A : Type 0} → ℕ → ℕ → Result A LineFault → Result A AsmFault
in_line_to number end (Ok x) = Ok x
in_line_to number end (Err fault) = Err (fault_by number end fault)

abbrev pub in_line : {A : Type 0} → ℕ → List Token → Result A LineFault → Result A AsmFault
in_line number ts r = in_line_to number (end_of ts) r

-- ---- tokens

-- what begins no token is Token, a number too wide is Range
abbrev pub token_fault : ℕ → TokenFault → AsmFault
token_fault number (fault.Bad column) = record { line = number; column = column; cause = cause.Token }
token_fault number (fault.Wide column) = record { line = number; column = column; cause = cause.Range }
token_fault number fault.Memory = record { line = number; column = 1; cause = cause.Token }

abbrev pub tokens_in : ℕ → Result (List Token) TokenFault → Result (List Token) AsmFault
tokens_in number (Ok ts) = Ok ts
tokens_in number (Err fault) = Err (token_fault number fault)

-- the tokens of a line, if it is UTF-8
unfoldable pub line_tokens : ℕ → List ℕ → Result (List Token) AsmFault
line_tokens number bytes =
    if is_utf8 bytes then tokens_in number (tokens_of bytes) else Err (record { line = number; column = 1; cause = cause.Utf8 })

-- ---- lines

-- tokens make a statement. Names have no values yet, for which 0 stands: whether tokens make a statement doesn't
-- hang on values.
abbrev pub statement_checked : List (List ℕ × ℤ) → Bool → List Token → Result (Unit {0}) LineFault
statement_checked names labelled ts = statement (values names 0) labelled ts >>= λ _. Ok tt

-- a new label and a statement: the names after them
abbrev pub check_labelled : List (List ℕ × ℤ) → List Token → List ℕ → Result (List (List ℕ × ℤ)) LineFault
check_labelled names ts name =
    if is_some (value_of names name) then Err (twice (column_of ts))
    else (statement_checked names true (behind_label ts) >>= λ _. Ok (with_name names name (pos 0)))

abbrev pub check_with : List (List ℕ × ℤ) → List Token → Option (List ℕ) → Result (List (List ℕ × ℤ)) LineFault
check_with names ts None = statement_checked names false ts >>= λ _. Ok names
check_with names ts (Some name) = check_labelled names ts name

abbrev pub check : List (List ℕ × ℤ) → List Token → Result (List (List ℕ × ℤ)) LineFault
check names ts = check_with names ts (label_of ts)

-- what is known after some lines
pub record Reading : Type 0 where
  pub names : List (List ℕ × ℤ)
  pub lines : List Line

-- a line has the number behind those before it
abbrev pub read_numbered : ℕ → Reading → List ℕ → Result Reading AsmFault
read_numbered number s bytes =
    line_tokens number bytes >>= λ ts. in_line number ts (check s.names ts) >>= λ names. Ok
    (record { names = names; lines = s.lines ++ (record { number = number; tokens = ts }) ∷ [] })

unfoldable pub read_line : Reading → List ℕ → Result Reading AsmFault
read_line s bytes = read_numbered (length s.lines + 1) s bytes

abbrev pub read_lines : Reading → List (List ℕ) → Result Reading AsmFault
read_lines s ls = steps read_line s ls

unfoldable pub no_reading : Reading
no_reading = record { names = []; lines = [] }
