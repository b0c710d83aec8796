-- One turn of the loop over a line, for each thing that may stand at the front of its rest.
use Rattle.std.proofs.Common.{◌≡◌, ℕ, zero, suc, ◌+◌, ◌-◌, ◌<◌, List, [], ◌∷◌, ◌++◌, length, drop, Result, Ok, Err}
use Rattle.std.proofs.Common.{refl, sym, ◌∙◌, ap, arith, append_assoc, append-nil, add-zero}
use Rattle.asm_text.specs.Lexemes.{lexeme}
use Rattle.asm_text.specs.Tokens.{behind, tokens_at}
use Rattle.asm_text.specs.declared.front.Lexeme.{Lexeme}
use Rattle.asm_text.specs.declared.front.Lexeme.TheVariants.{Blank, End, Bad, Wide, Lexed}
use Rattle.asm_text.specs.declared.answers.Token.{Token}
use Rattle.asm_text.specs.declared.answers.TokenKind.{TokenKind}
use Rattle.asm_text.specs.declared.answers.TokenFault.{TokenFault}
use Rattle.asm_text.specs.declared.answers.TokenFault.TheVariants as fault

-- the tokens found, then what is found in the rest
abbrev pub after : List Token → Result (List Token) TokenFault → Result (List Token) TokenFault
after found (Ok ts) = Ok (found ++ ts)
after found (Err e) = Err e

-- the tokens found before this column and what is found in the rest make the whole
pub record SoFar (found : List Token) (column : ℕ) (rest : List ℕ) (whole : Result (List Token) TokenFault) : Type 0 where
  pub is : after found (tokens_at 0 column rest) ≡ whole

-- bytes of a token already read only move the column
skipped : (k column : ℕ) (bs : List ℕ) → tokens_at k column bs ≡ tokens_at 0 (column + k) (drop k bs)
unfolding tokens_at
skipped zero column bs = rw (add-zero column) refl
skipped (suc k) column [] = refl
skipped (suc k) column (b ∷ bs) = let next : column + 1 + k ≡ column + suc k = omega arith in
    skipped k (column + 1) bs ∙ ap (λ c. tokens_at 0 c (drop k bs)) next

-- what is told of a rest with this at its front
abbrev pub turn : Lexeme → ℕ → List ℕ → Result (List Token) TokenFault
turn Blank column bs = tokens_at 0 (column + 1) bs
turn End column bs = Ok []
turn Bad column bs = Err (fault.Bad column)
turn Wide column bs = Err (fault.Wide column)
turn (Lexed kind len) column bs = behind (record { column = column; end = column + len; kind = kind }) (tokens_at (len - 1) (column + 1) bs)

-- the front of a rest decides what is told of it
pub at_front : (l : Lexeme) (column b : ℕ) (bs : List ℕ) → l ≡ lexeme (b ∷ bs) → tokens_at 0 column (b ∷ bs) ≡ turn l column bs
unfolding tokens_at
at_front Blank column b bs is = rw (← is, tokens_at) refl
at_front End column b bs is = rw (← is, tokens_at) refl
at_front Bad column b bs is = rw (← is, tokens_at) refl
at_front Wide column b bs is = rw (← is, tokens_at) refl
at_front (Lexed kind len) column b bs is = rw (← is, tokens_at) refl

-- the end of the line
at_nothing : (column : ℕ) → tokens_at 0 column [] ≡ Ok []
unfolding tokens_at
at_nothing column = refl

-- a blank moves the column
pub at_blank : (column : ℕ) (rest : List ℕ) → Blank ≡ lexeme rest → 0 < length rest → tokens_at 0 column rest ≡ tokens_at 0 (column + 1) (drop 1 rest)
at_blank column [] is some = absurd (omega arith)
at_blank column (b ∷ bs) is some = at_front Blank column b bs is

-- nothing follows the end
pub at_end : (column : ℕ) (rest : List ℕ) → End ≡ lexeme rest → tokens_at 0 column rest ≡ Ok []
at_end column [] is = at_nothing column
at_end column (b ∷ bs) is = at_front End column b bs is

-- what is no token is told with its column
pub at_bad : (column : ℕ) (rest : List ℕ) → Bad ≡ lexeme rest → tokens_at 0 column rest ≡ Err (fault.Bad column)
unfolding lexeme
at_bad column [] is = cc
at_bad column (b ∷ bs) is = at_front Bad column b bs is

-- a number too wide is told with its column
pub at_wide : (column : ℕ) (rest : List ℕ) → Wide ≡ lexeme rest → tokens_at 0 column rest ≡ Err (fault.Wide column)
unfolding lexeme
at_wide column [] is = cc
at_wide column (b ∷ bs) is = at_front Wide column b bs is

-- a token stands before those of the rest behind it
pub at_token : (column : ℕ) (rest : List ℕ) (kind : TokenKind) (len : ℕ) → Lexed kind len ≡ lexeme rest → 0 < len →
    tokens_at 0 column rest ≡ behind (record { column = column; end = column + len; kind = kind })
    (tokens_at 0 (column + len) (drop len rest))
unfolding lexeme
at_token column [] kind len is some = cc
at_token column (b ∷ bs) kind zero is some = absurd (omega arith)
at_token column (b ∷ bs) kind (suc k) is some =
    let less : suc k - 1 ≡ k = omega arith in
    let next : column + 1 + k ≡ column + suc k = omega arith in
    let token : Token = record { column = column; end = column + suc k; kind = kind } in
    at_front (Lexed kind (suc k)) column b bs is
    ∙ ap (behind token) (ap (λ n. tokens_at n (column + 1) bs) less ∙ skipped k (column + 1) bs
    ∙ ap (λ c. tokens_at 0 c (drop k bs)) next)

-- one token more, before what is found behind it
after_more : (found : List Token) (t : Token) (r : Result (List Token) TokenFault) → after (found ++ t ∷ []) r ≡ after found (behind t r)
after_more found t (Ok ts) = ap Ok (append_assoc found (t ∷ []) ts)
after_more found t (Err e) = refl

module _ {found : List Token} {column : ℕ} {rest : List ℕ} {whole : Result (List Token) TokenFault} (so_far : SoFar found column rest whole) where
  -- past a blank
  pub on_blank : Blank ≡ lexeme rest → 0 < length rest → SoFar found (column + 1) (drop 1 rest) whole
  on_blank is some = record { is = ap (after found) (sym (at_blank column rest is some)) ∙ so_far.is }

  -- at the end
  pub on_end : End ≡ lexeme rest → whole ≡ Ok found
  on_end is = sym so_far.is ∙ ap (after found) (at_end column rest is) ∙ ap Ok (append-nil found)

  -- at what is no token
  pub on_bad : Bad ≡ lexeme rest → whole ≡ Err (fault.Bad column)
  on_bad is = sym so_far.is ∙ ap (after found) (at_bad column rest is)

  -- at a number too wide
  pub on_wide : Wide ≡ lexeme rest → whole ≡ Err (fault.Wide column)
  on_wide is = sym so_far.is ∙ ap (after found) (at_wide column rest is)

  -- past a token
  pub on_token : (kind : TokenKind) (len : ℕ) → Lexed kind len ≡ lexeme rest → 0 < len →
      SoFar (found ++ (record { column = column; end = column + len; kind = kind }) ∷ []) (column + len)
      (drop len rest) whole
  on_token kind len is some = record {
    is = after_more found _ (tokens_at 0 (column + len) (drop len rest))
        ∙ ap (after found) (sym (at_token column rest kind len is some)) ∙ so_far.is;
  }
