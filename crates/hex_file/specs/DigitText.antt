-- A text of hexadecimal digits, and the bytes that it spells.
use Rattle.std.specs.Prelude.{ℕ, Bool, not, ◌==◌, ◌||◌, nat_le, if◌then◌else◌, List, length, filter, Result, Ok, Err}
use Rattle.hex.specs.Hex.{decode_of}
use Rattle.hex.specs.declared.error.FromHexError.{FromHexError}

-- what is wrong with a text
pub data HexFault : Type 0 where
  Digits : HexFault
  Long : HexFault

-- a tab (9), a line feed (10), a carriage return (13) or a space (32)
abbrev pub is_blank : ℕ → Bool
is_blank byte = byte == 9 || byte == 10 || byte == 13 || byte == 32

-- the text without its blanks
abbrev pub digits_of : List ℕ → List ℕ
digits_of text = filter (λ byte. not (is_blank byte)) text

-- at most 65,536 bytes that are spelled by pairs of digits
abbrev pub judged : Result (List ℕ) FromHexError → Result (List ℕ) HexFault
judged (Ok bytes) = if nat_le (length bytes) 65536 then Ok bytes else Err Long
judged (Err error) = Err Digits

-- the bytes that a text spells, or what is wrong with it
abbrev pub bytes_of_text : List ℕ → Result (List ℕ) HexFault
bytes_of_text text = judged (decode_of (digits_of text))
