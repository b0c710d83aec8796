-- How numbers are written in the project's texts: hexadecimal digits are capitals.
use Rattle.std.specs.Prelude.{ℕ, ◌+◌, ◌/◌, ◌%◌, true, List, [], ◌∷◌, ◌++◌}
use Rattle.std.specs.Fmt.{digit_glyph}

-- the character of a digit below 16
abbrev pub hex_digit : ℕ → ℕ
hex_digit d = digit_glyph true d

-- two digits of a byte, four of an address
abbrev pub hex2 : ℕ → List ℕ
hex2 byte = hex_digit (byte / 16) ∷ hex_digit (byte % 16) ∷ []

abbrev pub hex4 : ℕ → List ℕ
hex4 at = hex2 (at / 256) ++ hex2 (at % 256)

-- two octal digits of a number below 64
abbrev pub octal2 : ℕ → List ℕ
octal2 n = (48 + n / 8) ∷ (48 + n % 8) ∷ []
