-- The tokens of a line, or its first fault, are what the rules of the grammar read.
use Rattle.std.proofs.Common.{◌≡◌, true, ℕ, zero, suc, ◌+◌, ◌-◌, ◌<◌, List, [], ◌∷◌, ◌++◌, length, drop, Result, refl}
use Rattle.std.proofs.Common.{sym, ◌∙◌, ap, arith, add-zero, lit<, take-append-drop, length-take-le}
use Rattle.std.proofs.Math.Seq.{drop-append_seam}
use Rattle.asm_text.specs.Bytes.{is_name}
use Rattle.asm_text.specs.Lexemes.{lexeme}
use Rattle.asm_text.specs.Tokens.{behind, tokens_at, tokens_of}
use Rattle.asm_text.specs.Grammar.{Spells, spells_name, spells_decimal, spells_hexadecimal, spells_binary}
use Rattle.asm_text.specs.Grammar.{spells_quoted, spells_mark, BeginsNothing, IsOnlyReading, Reads, reads_end}
use Rattle.asm_text.specs.Grammar.{reads_comment, reads_blank, reads_token, reads_wide, reads_bad}
use Rattle.asm_text.specs.declared.front.Lexeme.{Lexeme}
use Rattle.asm_text.specs.declared.front.Lexeme.TheVariants.{Blank, End, Bad, Wide, Lexed}
use Rattle.asm_text.specs.declared.answers.Token.{Token}
use Rattle.asm_text.specs.declared.answers.TokenKind.{TokenKind}
use Rattle.asm_text.specs.declared.answers.TokenFault.{TokenFault}
use Rattle.asm_text.proofs.Scan.{turn, at_front, at_blank, at_end, at_bad, at_wide, at_token}
use Rattle.asm_text.proofs.Fronts.{StandsAt, front_stands, nothing, token_found, wide_found, blank_found, comment_found}

-- no bytes are the end
end_front : lexeme [] ≡ End
unfolding lexeme
end_front = refl

-- a name has a byte at least
some_in_name : (name : List ℕ) → is_name name ≡ true → 0 < length name
some_in_name [] named = cc
some_in_name (b ∷ bs) named = omega arith

-- a token at the front of bytes, with its length
token_read : {kind : TokenKind} {text rest : List ℕ} {found : Result (List Token) TokenFault} (column len : ℕ)
    (bytes : List ℕ) → Spells kind text rest → text ++ rest ≡ bytes → length text ≡ len →
    Reads (column + len) rest found → Reads column bytes
    (behind (record { column = column; end = column + len; kind = kind }) found)
token_read {kind} {text} {rest} {found} column len bytes spells split size others =
    let whole : Reads column (text ++ rest) (behind
    (record { column = column; end = column + length text; kind = kind }) found) =
    reads_token spells (rw size others) in
    rw (← split, ← size) whole

-- the rules read what stands at the front, and then the rest
front_read : (l : Lexeme) (column b : ℕ) (bs : List ℕ) → l ≡ lexeme (b ∷ bs) → StandsAt b bs l →
    ((k c : ℕ) → Reads (c + k) (drop k bs) (tokens_at k c bs)) → Reads column (b ∷ bs) (turn l column bs)
front_read Blank column b bs is stands rest = reads_blank stands (rw add-zero at (rest 0 (column + 1)))
front_read End column b bs is stands rest = rw stands reads_comment
front_read Bad column b bs is stands rest = reads_bad (nothing b bs is)
front_read Wide column b bs is stands rest = reads_wide stands
front_read (Lexed kind zero) column b bs is stands rest = absurd (omega (arith, stands.1))
front_read (Lexed kind (suc k)) column b bs is stands rest =
    let less : suc k - 1 ≡ k = omega arith in
    let next : column + 1 + k ≡ column + suc k = omega arith in
    rw less (token_read column (suc k) (b ∷ bs) stands.0 (take-append-drop (suc k) (b ∷ bs))
    (length-take-le (suc k) (b ∷ bs) stands.2) (rw next at (rest k (column + 1))))

-- the rules read bytes if they read those behind the first
reads_here : (column b : ℕ) (bs : List ℕ) → ((k c : ℕ) → Reads (c + k) (drop k bs) (tokens_at k c bs)) → Reads column (b ∷ bs) (tokens_at 0 column (b ∷ bs))
reads_here column b bs rest =
    let l = lexeme (b ∷ bs) in
    rw (at_front l column b bs refl) (front_read l column b bs refl (front_stands b bs) rest)

-- the rules read the bytes behind those of a token already read
reads_at : (skip column : ℕ) (bytes : List ℕ) → Reads (column + skip) (drop skip bytes) (tokens_at skip column bytes)
unfolding tokens_at
reads_at zero column [] = reads_end
reads_at (suc skip) column [] = reads_end
reads_at (suc skip) column (b ∷ bs) = let next : column + 1 + skip ≡ column + suc skip = omega arith in rw next at (reads_at skip (column + 1) bs)
reads_at zero column (b ∷ bs) = rw (add-zero column) (reads_here column b bs (λ k c. reads_at k c bs))

-- what stands nowhere isn't found
nothing_found : (l : Lexeme) (b : ℕ) (bs : List ℕ) → l ≡ lexeme (b ∷ bs) → StandsAt b bs l → BeginsNothing b bs → Bad ≡ lexeme (b ∷ bs)
nothing_found Blank b bs is stands none = absurd (none.no_blank stands)
nothing_found End b bs is stands none = absurd (none.no_comment stands)
nothing_found Bad b bs is stands none = is
nothing_found Wide b bs is stands none = absurd (none.no_wide (b ∷ bs) stands refl)
nothing_found (Lexed kind len) b bs is stands none = absurd (none.no_token kind _ _ stands.0 (sym (take-append-drop len (b ∷ bs))))

-- what is spelled has a byte at least
spelled_some : {kind : TokenKind} {text rest : List ℕ} → Spells kind text rest → 0 < length text
spelled_some {kind} {text} (spells_name named stop) = some_in_name text named
spelled_some (spells_decimal are fits) = are.some
spelled_some (spells_hexadecimal are fits) = omega arith
spelled_some (spells_binary are fits) = omega arith
spelled_some (spells_quoted printable) = lit< tt
spelled_some (spells_mark is) = lit< tt

-- each reading by the rules is the tokens or the first fault
only_reading : {column : ℕ} {bytes : List ℕ} {found : Result (List Token) TokenFault} → Reads column bytes found → tokens_at 0 column bytes ≡ found
only_reading (reads_end {column}) = at_end column [] (sym end_front)
only_reading (reads_comment {column} {bs}) = at_end column (59 ∷ bs) (sym (comment_found 59 bs refl))
only_reading (reads_blank {column} {b} {bs} {found} blank others) = at_blank column (b ∷ bs) (sym (blank_found b bs blank)) (omega arith) ∙ only_reading others
only_reading (reads_token {column} {kind} {text} {rest} {found} spells others) =
    at_token column (text ++ rest) kind (length text) (sym (token_found spells)) (spelled_some spells)
    ∙ ap (behind (record { column = column; end = column + length text; kind = kind }))
    (ap (tokens_at 0 (column + length text)) (drop-append_seam text rest) ∙ only_reading others)
only_reading (reads_wide {column} {bytes} wide) = at_wide column bytes (sym (wide_found wide))
only_reading (reads_bad {column} {b} {bs} none) = at_bad column (b ∷ bs) (nothing_found (lexeme (b ∷ bs)) b bs refl (front_stands b bs) none)

-- the rules read each line as its tokens or its first fault, and as nothing else
pub reads_line : (line : List ℕ) → IsOnlyReading line (tokens_of line)
reads_line line = record { read = reads_at 0 1 line; only = λ found reads. only_reading reads }
