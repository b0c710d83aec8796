-- Lines of tokens by rules: which bytes spell a token, what stands between tokens, and where a line is at fault.
use Rattle.std.specs.Prelude.{◌≡◌, ℕ, ◌+◌, ◌^◌, ◌<◌, ◌≤◌, List, [], ◌∷◌, ◌++◌, length, IsTrue, Result, Ok, Err}
use Rattle.std.specs.List.{list_all}
use Rattle.std.specs.Char.{is_digit}
use Rattle.text_lines.specs.Printable.{is_printable}
use Rattle.asm_text.specs.Bytes.{is_blank, is_name_byte, is_name, is_mark, value, stops}
use Rattle.asm_text.specs.Tokens.{behind}
use Rattle.asm_text.specs.declared.answers.Token.{Token}
use Rattle.asm_text.specs.declared.answers.TokenKind.{TokenKind}
use Rattle.asm_text.specs.declared.answers.TokenKind.TheVariants as kind
use Rattle.asm_text.specs.declared.answers.TokenFault.{TokenFault}
use Rattle.asm_text.specs.declared.answers.TokenFault.TheVariants as fault

-- all the digits of this base that stand here, at least one
pub record AreDigits (base : ℕ) (digits rest : List ℕ) : Type 0 where
  pub some : 0 < length digits
  pub each : IsTrue (list_all (λ b. is_digit b base) digits)
  pub longest : IsTrue (stops (λ b. is_digit b base) rest)

-- these bytes are this token where the rest follows them; 36 is `$`, 37 is `%`, and 39 is a quote
pub data Spells : TokenKind → List ℕ → List ℕ → Type 0 where
  spells_name : {name rest : List ℕ} → IsTrue (is_name name) → IsTrue (stops is_name_byte rest) → Spells (kind.Name name) name rest
  spells_decimal : {digits rest : List ℕ} → AreDigits 10 digits rest → value 10 digits < 2 ^ 32 → Spells (kind.Number (value 10 digits)) digits rest
  spells_hexadecimal : {digits rest : List ℕ} → AreDigits 16 digits rest → value 16 digits < 2 ^ 32 → Spells (kind.Number (value 16 digits)) (36 ∷ digits) rest
  spells_binary : {digits rest : List ℕ} → AreDigits 2 digits rest → value 2 digits < 2 ^ 32 → Spells (kind.Number (value 2 digits)) (37 ∷ digits) rest
  spells_quoted : {c : ℕ} {rest : List ℕ} → IsTrue (is_printable c) → Spells (kind.Number c) (39 ∷ c ∷ 39 ∷ []) rest
  spells_mark : {mark : ℕ} {rest : List ℕ} → IsTrue (is_mark mark) → Spells (kind.Mark mark) (mark ∷ []) rest

-- a number that 32 bits don't hold stands here
pub data BeginsWide : List ℕ → Type 0 where
  wide_decimal : {digits rest : List ℕ} → AreDigits 10 digits rest → 2 ^ 32 ≤ value 10 digits → BeginsWide (digits ++ rest)
  wide_hexadecimal : {digits rest : List ℕ} → AreDigits 16 digits rest → 2 ^ 32 ≤ value 16 digits → BeginsWide (36 ∷ (digits ++ rest))
  wide_binary : {digits rest : List ℕ} → AreDigits 2 digits rest → 2 ^ 32 ≤ value 2 digits → BeginsWide (37 ∷ (digits ++ rest))

-- nothing that a line may have stands here: no token, however the bytes are parted, no number too wide, no
-- blank and no comment
pub record BeginsNothing (b : ℕ) (bs : List ℕ) : Type 0 where
  pub no_token : (kind : TokenKind) (text rest : List ℕ) → Spells kind text rest → b ∷ bs ≡ text ++ rest → ⊥
  pub no_wide : (bytes : List ℕ) → BeginsWide bytes → b ∷ bs ≡ bytes → ⊥
  pub no_blank : IsTrue (is_blank b) → ⊥
  pub no_comment : b ≡ 59 → ⊥

-- the tokens of bytes whose first stands at this column, or their first fault; 59 is `;`
pub data Reads : ℕ → List ℕ → Result (List Token) TokenFault → Type 0 where
  reads_end : {column : ℕ} → Reads column [] (Ok [])
  reads_comment : {column : ℕ} {bs : List ℕ} → Reads column (59 ∷ bs) (Ok [])
  reads_blank : {column b : ℕ} {bs : List ℕ} {found : Result (List Token) TokenFault} → IsTrue (is_blank b) →
      Reads (column + 1) bs found → Reads column (b ∷ bs) found
  reads_token : {column : ℕ} {kind : TokenKind} {text rest : List ℕ} {found : Result (List Token) TokenFault} →
      Spells kind text rest → Reads (column + length text) rest found →
      Reads column (text ++ rest) (behind (record { column = column; end = column + length text; kind = kind }) found)
  reads_wide : {column : ℕ} {bytes : List ℕ} → BeginsWide bytes → Reads column bytes (Err (fault.Wide column))
  reads_bad : {column b : ℕ} {bs : List ℕ} → BeginsNothing b bs → Reads column (b ∷ bs) (Err (fault.Bad column))

-- the rules read this of a line, and nothing else
pub record IsOnlyReading (line : List ℕ) (said : Result (List Token) TokenFault) : Type 0 where
  pub read : Reads 1 line said
  pub only : (found : Result (List Token) TokenFault) → Reads 1 line found → said ≡ found
