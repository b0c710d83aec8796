-- What stands at the front of the rest of a line.
use Rattle.std.specs.Prelude.{ℕ, ◌+◌, ◌<◌, ◌≤◌, ◌&&◌, ◌==◌, nat_le, Option, Some, None, List, [], ◌∷◌, take, if◌then◌else◌}
use Rattle.std.specs.List.{prefix_len}
use Rattle.std.specs.Char.{is_digit}
use Rattle.text_lines.specs.Printable.{is_printable}
use Rattle.asm_text.specs.Bytes.{is_blank, is_letter, is_name_byte, is_mark, value, narrow}
use Rattle.asm_text.specs.declared.front.Lexeme.{Lexeme}
use Rattle.asm_text.specs.declared.front.Lexeme.TheVariants.{Blank, End, Bad, Wide, Lexed}
use Rattle.asm_text.specs.declared.answers.TokenKind.TheVariants as kind

-- n bytes that make a name, if they aren't too many
unfoldable pub name_of : List ℕ → ℕ → Lexeme
name_of bytes n = if nat_le n 32 then Lexed (kind.Name (take n bytes)) n else Bad

-- the longest name at the front of bytes that begin with a letter
unfoldable pub name_lexeme : List ℕ → Lexeme
name_lexeme bytes = name_of bytes (prefix_len is_name_byte bytes)

-- a number of this many bytes, or one that 32 bits don't hold
abbrev pub sized_number : Option ℕ → ℕ → Lexeme
sized_number (Some n) len = Lexed (kind.Number n) len
sized_number None len = Wide

-- n digits, which stand behind `before` bytes that show the base
unfoldable pub digits_lexeme : ℕ → ℕ → List ℕ → ℕ → Lexeme
digits_lexeme base before bytes n = if n == 0 then Bad else sized_number (narrow (value base (take n bytes))) (before + n)

-- the longest number at the front of bytes, which stand behind `before` bytes that show the base
unfoldable pub number_lexeme : ℕ → ℕ → List ℕ → Lexeme
number_lexeme base before bytes = digits_lexeme base before bytes (prefix_len (λ b. is_digit b base) bytes)

-- behind a quote: one printable character, which may be a quote, and a quote
unfoldable pub quoted_lexeme : List ℕ → Lexeme
quoted_lexeme [] = Bad
quoted_lexeme (c ∷ []) = Bad
quoted_lexeme (c ∷ quote ∷ rest) = if is_printable c && (quote == 39) then Lexed (kind.Number c) 3 else Bad

-- what stands at the front of the rest of a line: a blank or a tab, `;` (59) with a comment, after `$` (36) a
-- number in base 16 and after `%` (37) in base 2, a character in quotes (39), a number in base 10, a name, a
-- mark, or nothing that is known
unfoldable pub lexeme : List ℕ → Lexeme
lexeme [] = End
lexeme (b ∷ bs) =
    if is_blank b then Blank
    else (if b == 59 then End
    else (if b == 36 then number_lexeme 16 1 bs
    else (if b == 37 then number_lexeme 2 1 bs
    else (if b == 39 then quoted_lexeme bs
    else (if is_digit b 10 then number_lexeme 10 0 (b ∷ bs)
    else (if is_letter b then name_lexeme (b ∷ bs)
    else (if is_mark b then Lexed (kind.Mark b) 1
    else Bad)))))))

-- what was found takes a byte at least, and no more than there are
abbrev pub IsWithin : ℕ → Lexeme → Type 0
IsWithin n Blank = 0 < n
IsWithin n (Lexed kind len) = (0 < len) × (len ≤ n)
IsWithin n _ = Unit {0}
