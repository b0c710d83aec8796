-- The classes of bytes that a line of assembly is made of.
use Rattle.std.specs.Prelude.{ℕ, ◌+◌, ◌*◌, ◌^◌, Bool, true, false, not, ◌||◌, ◌&&◌, ◌==◌, nat_le, nat_lt, if◌then◌else◌}
use Rattle.std.specs.Prelude.{Option, Some, None, List, [], ◌∷◌, length, fold, codes}
use Rattle.std.specs.List.{list_any, list_all}
use Rattle.std.specs.Char.{is_ascii_alphabetic, is_ascii_digit, digit_value}

-- what may stand between tokens: a blank or a tab
abbrev pub is_blank : ℕ → Bool
is_blank b = b == 32 || b == 9

-- what a name begins with: a letter or `_`
abbrev pub is_letter : ℕ → Bool
is_letter b = is_ascii_alphabetic b || b == 95

-- what a name goes on with: a letter, a digit or `_`
abbrev pub is_name_byte : ℕ → Bool
is_name_byte b = is_letter b || is_ascii_digit b

-- whether bytes begin as a name does
abbrev pub begins_name : List ℕ → Bool
begins_name [] = false
begins_name (b ∷ bs) = is_letter b

-- a name has 1 to 32 bytes
abbrev pub is_name : List ℕ → Bool
is_name [] = false
is_name (b ∷ bs) = is_letter b && list_all is_name_byte bs && nat_le (length bs) 31

-- the marks, each a token of one byte
abbrev pub is_mark : ℕ → Bool
is_mark b = list_any (λ mark. mark == b) (codes "+-*/&|()<>,.:")

-- bytes that don't begin with one of this class
abbrev pub stops : (ℕ → Bool) → List ℕ → Bool
stops p [] = true
stops p (b ∷ bs) = not (p b)

-- the number that digits spell in a base, the first digit the heaviest
unfoldable pub value : ℕ → List ℕ → ℕ
value base digits = fold (λ sum digit. sum * base + digit_value digit) 0 digits

-- a number, if 32 bits hold it
unfoldable pub narrow : ℕ → Option ℕ
narrow n = if nat_lt n (2 ^ 32) then Some n else None
