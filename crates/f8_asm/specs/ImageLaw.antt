-- What the image of a text is, by its lines.
use Rattle.std.specs.Prelude.{◌≡◌, ℕ, ◌+◌, ◌<◌, ◌==◌, if◌then◌else◌, ℤ, pos, List, [], ◌∷◌, ◌++◌, length, flat_map, Option, Some, None}
use Rattle.std.specs.Prelude.{is_some, Result, Ok}
use Rattle.asm_text.specs.Tokens.{tokens_of}
use Rattle.asm_text.specs.declared.answers.Token.{Token}
use Rattle.f8_asm.specs.declared.faults.LineFault.{LineFault}
use Rattle.f8_asm.specs.declared.operands.Effect.TheVariants.{Names, Moves, Fills}
use Rattle.f8_asm.specs.declared.operands.Operand.{Operand}
use Rattle.f8_asm.specs.declared.operands.Statement.{Statement}
use Rattle.f8_asm.specs.declared.values.Outcome.{Outcome}
use Rattle.f8_asm.specs.Evaluation.{values}
use Rattle.f8_asm.specs.Image.{Picture, bytes_from}
use Rattle.f8_asm.specs.Judging.{operand_value, unsigned_value}
use Rattle.text_lines.specs.Lines.{lines}
use Rattle.f8_asm.specs.Names.{value_of}
use Rattle.f8_asm.specs.PassThree.{line_bytes}
use Rattle.f8_asm.specs.Statements.{statement, label_of, behind_label, effect_of}

-- where a line stands, and its bytes
pub record Standing : Type 0 where
  pub address : ℕ
  pub bytes : List ℕ

-- what a label names
abbrev pub label_name : Option (List ℕ) → ℤ → List (List ℕ × ℤ)
label_name None v = []
label_name (Some name) v = (name, v) ∷ []

-- no line before has this label
abbrev pub IsNew : List (List ℕ × ℤ) → Option (List ℕ) → Type 0
IsNew earlier None = Unit {0}
IsNew earlier (Some name) = value_of earlier name ≡ None

-- the statement of a line at this address, with the names of earlier lines
abbrev pub statement_at : List (List ℕ × ℤ) → ℕ → List Token → Result (Statement Outcome) LineFault
statement_at earlier at ts = statement (values earlier at) (is_some (label_of ts)) (behind_label ts)

-- A line's tokens at an address, with the names of the lines before it and with all names of the text: its bytes, the address of the next
-- line, and the names behind it.
pub data LineStands : List (List ℕ × ℤ) → List (List ℕ × ℤ) → ℕ → List Token → List ℕ → ℕ → List (List ℕ × ℤ) → Type 0 where
  -- EQU names the value that its operand has over the names of earlier lines
  equ : {names earlier : List (List ℕ × ℤ)} {at : ℕ} {ts : List Token} {st : Statement Outcome} {o : Operand Outcome} {v : ℤ}
      → statement_at earlier at ts ≡ Ok st → effect_of st ≡ Names o → operand_value o ≡ Ok v
      → LineStands names earlier at ts [] at (earlier ++ label_name (label_of ts) v)
  -- the next line stands where ORG says; a label has the address before
  org : {names earlier : List (List ℕ × ℤ)} {at next : ℕ} {ts : List Token} {st : Statement Outcome} {o : Operand Outcome} → statement_at earlier at ts ≡ Ok st
      → effect_of st ≡ Moves o → unsigned_value 65535 o ≡ Ok next
      → LineStands names earlier at ts [] next (earlier ++ label_name (label_of ts) (pos at))
  -- any other line has bytes, with all names of the text, and the next line stands behind them; a label has the line's address
  filling : {names earlier : List (List ℕ × ℤ)} {at : ℕ} {ts : List Token} {st : Statement Outcome} {bs : List ℕ} → statement_at earlier at ts ≡ Ok st
      → effect_of st ≡ Fills (length bs) → line_bytes names at ts ≡ Ok bs
      → LineStands names earlier at ts bs (at + length bs) (earlier ++ label_name (label_of ts) (pos at))

-- Lines one behind the other, the first at this address: each gives no label that a line before it gave, and stands so. All names of the
-- text are those that are given behind the last.
pub data LinesStand : List (List ℕ × ℤ) → List (List ℕ × ℤ) → ℕ → List (List ℕ) → List Standing → Type 0 where
  no_line : {names : List (List ℕ × ℤ)} {at : ℕ} → LinesStand names names at [] []
  one_line : {names earlier later : List (List ℕ × ℤ)} {at next : ℕ} {l : List ℕ} {ls : List (List ℕ)} {ts : List Token} {bs : List ℕ}
      {ss : List Standing} → tokens_of l ≡ Ok ts → IsNew earlier (label_of ts)
      → LineStands names earlier at ts bs next later → LinesStand names later next ls ss
      → LinesStand names earlier at (l ∷ ls) (record { address = at; bytes = bs } ∷ ss)

-- the bytes of lines, each with its address: the k-th byte of a line stands k behind the line
abbrev pub standing_bytes : List Standing → List (ℕ × ℕ)
standing_bytes ss = flat_map (λ s. bytes_from s.address s.bytes) ss

-- the byte at an address
abbrev pub byte_at : List (ℕ × ℕ) → ℕ → Option ℕ
byte_at [] a = None
byte_at (b ∷ bs) a = if b.0 == a then Some b.1 else byte_at bs a

-- where a line has a byte, no line behind it has one
abbrev pub Apart : List Standing → Type 0
Apart [] = Unit {0}
Apart (s ∷ ss) = ((k : ℕ) → k < length s.bytes → byte_at (standing_bytes ss) (s.address + k) ≡ None) × Apart ss

-- the image of a text: its lines stand one behind the other from address 0000 on, no two have a byte at one address, and at each
-- address the image has the byte that a line has there, and none where no line has one
pub record IsImage (text : List ℕ) (picture : Picture) : Type 0 where
  pub standing : List Standing
  pub stand : LinesStand picture.symbols [] 0 (lines text) standing
  pub apart : Apart standing
  pub bytes : (a : ℕ) → byte_at picture.bytes a ≡ byte_at (standing_bytes standing) a
