-- Lines worked by hand, each against the definition alone.
use Rattle.std.proofs.Common.{◌≡◌, ◌<◌, ℕ, [], ◌∷◌, ◌++◌, Ok, Err, refl}
use Rattle.std.specs.Prelude.{codes, replicate}
use Rattle.asm_text.specs.Bytes.{value, narrow}
use Rattle.asm_text.specs.Lexemes.{name_of, name_lexeme, digits_lexeme, number_lexeme, quoted_lexeme, lexeme}
use Rattle.asm_text.specs.Tokens.{tokens_at, tokens_of}
use Rattle.f8_spec.specs.Spelling.{hex2, hex4}
use Rattle.asm_text.proofs.Spelled.{hex2_read, hex4_read}
use Rattle.asm_text.specs.declared.answers.Token.{Token}
use Rattle.asm_text.specs.declared.answers.TokenKind.{TokenKind}
use Rattle.asm_text.specs.declared.answers.TokenKind.TheVariants as kind
use Rattle.asm_text.specs.declared.answers.TokenFault.TheVariants as fault

-- a token with its two columns
abbrev token : ℕ → ℕ → TokenKind → Token
token column end what = record { column = column; end = end; kind = what }

-- a label, its colon and a mnemonic
label : tokens_of (codes "LOOP: NOP") ≡ Ok (token 1 5 (kind.Name (codes "LOOP")) ∷ token 5 6 (kind.Mark 58) ∷ token 7 10 (kind.Name (codes "NOP")) ∷ [])
unfolding tokens_at lexeme name_lexeme name_of
label = refl

-- a decimal and a hexadecimal number of either case
numbers : tokens_of (codes " BT 1,$2aF") ≡ Ok
    (token 2 4 (kind.Name (codes "BT")) ∷ token 5 6 (kind.Number 1) ∷ token 6 7 (kind.Mark 44) ∷
    token 7 11 (kind.Number 687) ∷ [])
unfolding tokens_at lexeme name_lexeme name_of number_lexeme digits_lexeme value narrow
numbers = refl

-- the longest number, then the longest name: nothing need part tokens
together : tokens_of (codes "123abc") ≡ Ok (token 1 4 (kind.Number 123) ∷ token 4 7 (kind.Name (codes "abc")) ∷ [])
unfolding tokens_at lexeme name_lexeme name_of number_lexeme digits_lexeme value narrow
together = refl

-- binary digits end where another digit stands
binary : tokens_of (codes "%102") ≡ Ok (token 1 4 (kind.Number 2) ∷ token 4 5 (kind.Number 2) ∷ [])
unfolding tokens_at lexeme number_lexeme digits_lexeme value narrow
binary = refl

-- in quotes stand a quote, a semicolon and a blank too
quoted : tokens_of (codes "'''';'' '") ≡ Ok (token 1 4 (kind.Number 39) ∷ token 4 7 (kind.Number 59) ∷ token 7 10 (kind.Number 32) ∷ [])
unfolding tokens_at lexeme quoted_lexeme
quoted = refl

-- a quote that nothing closes, and one with nothing in it
unquoted : tokens_of (codes " 'a") ≡ Err (fault.Bad 2)
unfolding tokens_at lexeme quoted_lexeme
unquoted = refl

nothing_quoted : tokens_of (codes "''") ≡ Err (fault.Bad 1)
unfolding tokens_at lexeme quoted_lexeme
nothing_quoted = refl

-- a tab can't be quoted
tab_quoted : tokens_of (39 ∷ 9 ∷ 39 ∷ []) ≡ Err (fault.Bad 1)
unfolding tokens_at lexeme quoted_lexeme
tab_quoted = refl

-- `$` with no digit, and `%` with no binary digit
no_digit : tokens_of (codes " LI $G") ≡ Err (fault.Bad 5)
unfolding tokens_at lexeme name_lexeme name_of number_lexeme digits_lexeme
no_digit = refl

no_binary_digit : tokens_of (codes "%2") ≡ Err (fault.Bad 1)
unfolding tokens_at lexeme number_lexeme digits_lexeme
no_binary_digit = refl

-- the greatest number, and one more in each base
greatest : tokens_of (codes "4294967295") ≡ Ok (token 1 11 (kind.Number 4294967295) ∷ [])
unfolding tokens_at lexeme number_lexeme digits_lexeme value narrow
greatest = refl

wide : tokens_of (codes "X: EQU $100000000") ≡ Err (fault.Wide 8)
unfolding tokens_at lexeme name_lexeme name_of number_lexeme digits_lexeme value narrow
wide = refl

wide_decimal : tokens_of (codes "4294967296") ≡ Err (fault.Wide 1)
unfolding tokens_at lexeme number_lexeme digits_lexeme value narrow
wide_decimal = refl

-- zeros in front make no number wide
zeros : tokens_of (codes "$00000000001") ≡ Ok (token 1 13 (kind.Number 1) ∷ [])
unfolding tokens_at lexeme number_lexeme digits_lexeme value narrow
zeros = refl

-- a name of 32 bytes, and one of 33
longest_name : tokens_of (replicate 32 65) ≡ Ok (token 1 33 (kind.Name (replicate 32 65)) ∷ [])
unfolding tokens_at lexeme name_lexeme name_of
longest_name = refl

long_name : tokens_of (replicate 33 65) ≡ Err (fault.Bad 1)
unfolding tokens_at lexeme name_lexeme name_of
long_name = refl

-- a comment holds what it will: a return, a byte past ASCII
comment : tokens_of (codes "\t;'$" ++ 13 ∷ 195 ∷ 169 ∷ []) ≡ Ok []
unfolding tokens_at lexeme
comment = refl

-- the same two outside a comment, and a mark that is none
return_outside : tokens_of (codes "NOP" ++ 13 ∷ []) ≡ Err (fault.Bad 4)
unfolding tokens_at lexeme name_lexeme name_of
return_outside = refl

past_ascii : tokens_of (codes "caf" ++ 195 ∷ 169 ∷ []) ≡ Err (fault.Bad 4)
unfolding tokens_at lexeme name_lexeme name_of
past_ascii = refl

no_mark : tokens_of (codes "A = 5") ≡ Err (fault.Bad 3)
unfolding tokens_at lexeme name_lexeme name_of
no_mark = refl

-- the first fault from the left
first_fault : tokens_of (codes "# $100000000") ≡ Err (fault.Bad 1)
unfolding tokens_at lexeme
first_fault = refl

-- the marks
marks : tokens_of (codes "+-*/&|()<>,.:") ≡ Ok
    (token 1 2 (kind.Mark 43) ∷ token 2 3 (kind.Mark 45) ∷ token 3 4 (kind.Mark 42) ∷ token 4 5 (kind.Mark 47) ∷
    token 5 6 (kind.Mark 38) ∷ token 6 7 (kind.Mark 124) ∷ token 7 8 (kind.Mark 40) ∷ token 8 9 (kind.Mark 41) ∷
    token 9 10 (kind.Mark 60) ∷ token 10 11 (kind.Mark 62) ∷ token 11 12 (kind.Mark 44) ∷ token 12 13 (kind.Mark 46) ∷
    token 13 14 (kind.Mark 58) ∷ [])
unfolding tokens_at lexeme
marks = refl

-- a listing's byte and word, whichever they are
listed_byte : (b : ℕ) → b < 256 → tokens_of (codes "LI $" ++ hex2 b) ≡ Ok (token 1 3 (kind.Name (codes "LI")) ∷ token 4 7 (kind.Number b) ∷ [])
unfolding tokens_at lexeme name_lexeme name_of
listed_byte b small = rw (hex2_read b [] small refl) refl

listed_word : (w : ℕ) → w < 65536 → tokens_of (codes "PI $" ++ hex4 w) ≡ Ok (token 1 3 (kind.Name (codes "PI")) ∷ token 4 9 (kind.Number w) ∷ [])
unfolding tokens_at lexeme name_lexeme name_of
listed_word w small = rw (hex4_read w [] small refl) refl
