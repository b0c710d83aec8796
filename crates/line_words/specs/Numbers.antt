-- Bytes, addresses and numbers that words spell.
use Rattle.std.specs.Prelude.{ℕ, ◌+◌, ◌-◌, ◌*◌, ◌&&◌, nat_le, if◌then◌else◌, List, [], ◌∷◌, length, slice_index, Option}
use Rattle.std.specs.Prelude.{Some, None, option_map, Result, Ok, Err}
use Rattle.std.specs.Char.{is_ascii_digit}
use Rattle.std.specs.Result.{result_ok}
use Rattle.hex.specs.Hex.{decode_sized}
use Rattle.line_words.specs.declared.numbers.NumberFault.{NumberFault}
use Rattle.line_words.specs.declared.numbers.NumberFault.TheVariants.{NotNumber, OutOfRange}

-- a byte of exactly two hexadecimal digits of either case
abbrev pub byte_of : List ℕ → Option ℕ
byte_of word = option_map (λ bytes. slice_index bytes 0) (result_ok (decode_sized word 1))

-- an address of exactly four, the high byte first
abbrev pub address_of : List ℕ → Option ℕ
address_of word = option_map (λ bytes. slice_index bytes 0 * 256 + slice_index bytes 1) (result_ok (decode_sized word 2))

-- the number that decimal digits make behind the number n
unfoldable pub decimal_on : ℕ → List ℕ → Option ℕ
decimal_on n [] = Some n
decimal_on n (c ∷ cs) = if is_ascii_digit c then decimal_on (10 * n + (c - 48)) cs else None

-- a number of one to seven decimal digits
abbrev pub number_of : List ℕ → Option ℕ
number_of word = if nat_le 1 (length word) && nat_le (length word) 7 then decimal_on 0 word else None

-- a number that is spelled
abbrev pub spelled : Option ℕ → Result ℕ NumberFault
spelled None = Err NotNumber
spelled (Some n) = Ok n

-- one that lies between two others, both of them allowed
abbrev pub within : ℕ → ℕ → Option ℕ → Result ℕ NumberFault
within first last None = Err NotNumber
within first last (Some n) = if nat_le first n && nat_le n last then Ok n else Err OutOfRange
