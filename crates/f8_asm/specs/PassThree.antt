-- The third pass: the bytes of each line at its address, with the values of all names.
use Rattle.std.specs.Prelude.{ℕ, ℤ, ◌+◌, List, [], ◌∷◌, replicate, slice_set, Option, Some, None, is_some, Result, Ok}
use Rattle.asm_text.specs.declared.answers.Token.{Token}
use Rattle.f8_asm.specs.declared.answers.AsmFault.{AsmFault}
use Rattle.f8_asm.specs.declared.faults.LineFault.{LineFault}
use Rattle.f8_asm.specs.Answers.{◌>>=◌}
use Rattle.f8_asm.specs.Bytes.{bytes_of}
use Rattle.f8_asm.specs.Evaluation.{values}
use Rattle.f8_asm.specs.PassOne.{in_line}
use Rattle.f8_asm.specs.Statements.{statement, label_of, behind_label}
use Rattle.f8_asm.specs.Steps.{steps}
use Rattle.f8_asm.specs.TokenLines.{PlacedLine}

-- the byte of each of so many addresses, before any is known
unfoldable pub no_bytes : ℕ → List (Option ℕ)
no_bytes size = replicate size None

-- bytes one after the other from an address on
abbrev pub table_with : List (Option ℕ) → ℕ → List ℕ → List (Option ℕ)
table_with table at [] = table
table_with table at (b ∷ bs) = table_with (slice_set table at (Some b)) (at + 1) bs

-- the bytes of a line's tokens
unfoldable pub line_bytes : List (List ℕ × ℤ) → ℕ → List Token → Result (List ℕ) LineFault
line_bytes names address ts = statement (values names address) (is_some (label_of ts)) (behind_label ts) >>= λ st. bytes_of address st

unfoldable pub emit : List (List ℕ × ℤ) → List (Option ℕ) → PlacedLine → Result (List (Option ℕ)) AsmFault
emit names table p = in_line p.line.number p.line.tokens (line_bytes names p.address p.line.tokens) >>= λ bs. Ok (table_with table p.address bs)

abbrev pub emit_lines : List (List ℕ × ℤ) → List (Option ℕ) → List PlacedLine → Result (List (Option ℕ)) AsmFault
emit_lines names table ps = steps (emit names) table ps
