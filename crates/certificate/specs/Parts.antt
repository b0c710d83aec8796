-- The parts of a line of a certificate, both ways. Each is read from the front of a text: its value, and what is behind it.
use Rattle.std.specs.Prelude.{ℕ, zero, suc, ◌+◌, ◌*◌, ◌==◌, nat_lt, Bool, true, false, if◌then◌else◌, List, [], ◌∷◌, ◌++◌, codes, flat_map}
use Rattle.std.specs.Prelude.{Option, Some, None, option_map, option_and_then}
use Rattle.std.specs.Char.{digit_value}
use Rattle.f8_spec.specs.Spelling.{hex2, hex4}

-- the next step, where there is a value
infixl 10 ◌>>=◌
abbrev pub ◌>>=◌ : {A B : Type 0} → Option A → (A → Option B) → Option B
o >>= f = option_and_then f o

-- ---- marks and digits

-- what is behind a mark, where a text begins with it
unfoldable pub behind : List ℕ → List ℕ → Option (List ℕ)
behind [] text = Some text
behind (m ∷ mark) [] = None
behind (m ∷ mark) (b ∷ text) = if b == m then behind mark text else None

-- the value of a digit in a radix, letters in either case
unfoldable pub digit_in : ℕ → ℕ → Option ℕ
digit_in radix b = if nat_lt (digit_value b) radix then Some (digit_value b) else None

unfoldable pub digit_at : ℕ → List ℕ → Option (ℕ × List ℕ)
digit_at radix [] = None
digit_at radix (b ∷ text) = option_map (λ digit. (digit, text)) (digit_in radix b)

-- two hexadecimal digits are a byte, four an address
unfoldable pub byte_at : List ℕ → Option (ℕ × List ℕ)
byte_at text = do
  high ← digit_at 16 text
  low ← digit_at 16 high.1
  Some (high.0 * 16 + low.0, low.1)

unfoldable pub address_at : List ℕ → Option (ℕ × List ℕ)
address_at text = do
  high ← byte_at text
  low ← byte_at high.1
  Some (high.0 * 256 + low.0, low.1)

-- `1` is true, `0` false
unfoldable pub bit_at : List ℕ → Option (Bool × List ℕ)
bit_at text = option_map (λ x. (x.0 == 1, x.1)) (digit_at 2 text)

-- ---- parts that may be unknown: as many dashes as the part has digits

-- dashes stand here, with this behind them, or else what is known does
abbrev pub known_or : {A : Type 0} → Option (List ℕ) → Option (A × List ℕ) → Option (Option A × List ℕ)
known_or (Some rest) known = Some (None, rest)
known_or None known = option_map (λ x. (Some x.0, x.1)) known

unfoldable pub known_byte_at : List ℕ → Option (Option ℕ × List ℕ)
known_byte_at text = known_or (behind (codes "--") text) (byte_at text)

unfoldable pub known_address_at : List ℕ → Option (Option ℕ × List ℕ)
known_address_at text = known_or (behind (codes "----") text) (address_at text)

unfoldable pub known_octal_at : List ℕ → Option (Option ℕ × List ℕ)
known_octal_at text = known_or (behind (codes "-") text) (digit_at 8 text)

unfoldable pub known_bit_at : List ℕ → Option (Option Bool × List ℕ)
known_bit_at text = known_or (behind (codes "-") text) (bit_at text)

-- ---- lists of bytes, each known or not

-- so many of them, each behind a mark
unfoldable pub bytes_at : List ℕ → ℕ → List ℕ → Option (List (Option ℕ) × List ℕ)
bytes_at mark zero text = Some ([], text)
bytes_at mark (suc n) text = do
  rest ← behind mark text
  first ← known_byte_at rest
  others ← bytes_at mark n first.1
  Some (first.0 ∷ others.0, others.1)

-- so many of them with commas between, or a full stop where there is none
unfoldable pub values_at : ℕ → List ℕ → Option (List (Option ℕ) × List ℕ)
values_at zero text = option_map (λ rest. ([], rest)) (behind (codes ".") text)
values_at (suc n) text = do
  first ← known_byte_at text
  others ← bytes_at (codes ",") n first.1
  Some (first.0 ∷ others.0, others.1)

-- ---- the same parts as they are written: hexadecimal digits are capitals

abbrev pub bit_text : Bool → List ℕ
bit_text true = codes "1"
bit_text false = codes "0"

-- an octal digit
abbrev pub octal_text : ℕ → List ℕ
octal_text digit = (48 + digit) ∷ []

-- what is known, or its dashes
abbrev pub text_or : {A : Type 0} → List ℕ → (A → List ℕ) → Option A → List ℕ
text_or dashes text None = dashes
text_or dashes text (Some x) = text x

abbrev pub known_byte_text : Option ℕ → List ℕ
known_byte_text byte = text_or (codes "--") hex2 byte

abbrev pub known_address_text : Option ℕ → List ℕ
known_address_text at = text_or (codes "----") hex4 at

abbrev pub known_octal_text : Option ℕ → List ℕ
known_octal_text digit = text_or (codes "-") octal_text digit

abbrev pub known_bit_text : Option Bool → List ℕ
known_bit_text bit = text_or (codes "-") bit_text bit

abbrev pub bytes_text : List ℕ → List (Option ℕ) → List ℕ
bytes_text mark bytes = flat_map (λ byte. mark ++ known_byte_text byte) bytes

abbrev pub values_text : List (Option ℕ) → List ℕ
values_text [] = codes "."
values_text (value ∷ values) = known_byte_text value ++ bytes_text (codes ",") values
