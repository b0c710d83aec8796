-- The tokens of a line, or its first fault.
use Rattle.std.specs.Prelude.{◌≡◌, ℕ, zero, suc, ◌+◌, ◌-◌, List, [], ◌∷◌, Result, Ok, Err}
use Rattle.asm_text.specs.Lexemes.{lexeme}
use Rattle.asm_text.specs.declared.front.Lexeme.TheVariants.{Blank, End, Bad, Wide, Lexed}
use Rattle.asm_text.specs.declared.answers.Token.{Token}
use Rattle.asm_text.specs.declared.answers.TokenFault.{TokenFault}
use Rattle.asm_text.specs.declared.answers.TokenFault.TheVariants as fault

-- a token before the tokens of the rest
abbrev pub behind : Token → Result (List Token) TokenFault → Result (List Token) TokenFault
behind t (Ok ts) = Ok (t ∷ ts)
behind t (Err e) = Err e

-- the tokens of bytes whose first stands at this column, where the first `skip` bytes belong to a token
-- already read
unfoldable pub tokens_at : ℕ → ℕ → List ℕ → Result (List Token) TokenFault
tokens_at skip column [] = Ok []
tokens_at (suc skip) column (b ∷ bs) = tokens_at skip (column + 1) bs
tokens_at zero column (b ∷ bs) =
    elim (lexeme (b ∷ bs)) [
      | Blank ↦ tokens_at 0 (column + 1) bs
      | End ↦ Ok []
      | Bad ↦ Err (fault.Bad column)
      | Wide ↦ Err (fault.Wide column)
      | Lexed kind len ↦ behind (record { column = column; end = column + len; kind = kind }) (tokens_at (len - 1) (column + 1) bs)
    ]

-- the tokens of a line, or its first fault
abbrev pub tokens_of : List ℕ → Result (List Token) TokenFault
tokens_of line = tokens_at 0 1 line

-- a fault is the one that the line has, and want of memory says nothing of the line
abbrev pub IsFaultOf : Result (List Token) TokenFault → TokenFault → Type 0
IsFaultOf found (fault.Bad column) = found ≡ Err (fault.Bad column)
IsFaultOf found (fault.Wide column) = found ≡ Err (fault.Wide column)
IsFaultOf found fault.Memory = Unit {0}
