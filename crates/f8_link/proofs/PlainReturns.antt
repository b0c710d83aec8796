-- A CR at the end of a line that has tokens stands in a comment: without it the line has the same tokens.
use Rattle.std.proofs.Common.{◌≡◌, ℕ, zero, suc, ◌+◌, Bool, true, false, List, [], ◌∷◌, ◌++◌, length, take, Result, Ok, Err, refl, sym, ◌∙◌}
use Rattle.std.proofs.Common.{ap, subst, arith}
use Rattle.std.proofs.Common.{lit<}
use Rattle.std.specs.Prelude.{◌==◌, nat_le, if◌then◌else◌}
use Rattle.std.specs.List.{prefix_len}
use Rattle.std.specs.Char.{is_digit}
use Rattle.std.specs.Str.{is_utf8, IsUtf8, IsAscii}
use Rattle.std.proofs.Math.Seq.{take-append_seam}
use Rattle.std.proofs.lemmas.List.{take-append-le}
use Rattle.std.proofs.lemmas.List.Sums.{prefix_len-le-length}
use Rattle.std.proofs.lemmas.Bool.Decides.{nat_tests}
use Rattle.std.proofs.lemmas.Str.{IsUtf8-take, IsCharBoundary-at_seam, IsUtf8-from_ascii, IsUtf8-from_is_utf8, is_utf8-from_IsUtf8}
use Rattle.asm_text.specs.Bytes.{is_name_byte, value, narrow}
use Rattle.asm_text.specs.Lexemes.{name_of, name_lexeme, digits_lexeme, sized_number, number_lexeme, quoted_lexeme, lexeme}
use Rattle.asm_text.specs.Tokens.{behind, tokens_at, tokens_of}
use Rattle.asm_text.specs.declared.answers.Token.{Token}
use Rattle.asm_text.specs.declared.answers.TokenFault.{TokenFault}
use Rattle.asm_text.specs.declared.answers.TokenKind.TheVariants as kind
use Rattle.asm_text.specs.declared.front.Lexeme.{Lexeme}
use Rattle.asm_text.specs.declared.front.Lexeme.TheVariants.{Blank, End, Bad, Wide, Lexed}
use Rattle.asm_text.proofs.Scan.{turn, at_front, at_bad}
use Rattle.f8_asm.specs.PassOne.{tokens_in, line_tokens}
use Rattle.f8_asm.specs.declared.answers.AsmCause.TheVariants as cause
use Rattle.f8_asm.specs.declared.answers.AsmFault.{AsmFault}
use Rattle.text_lines.specs.Lines.{without_return}

-- ---- what stands at the front

-- a CR goes on with no run of a class that it isn't of
run_return : (p : ℕ → Bool) → p 13 ≡ false → (xs : List ℕ) → prefix_len p (xs ++ 13 ∷ []) ≡ prefix_len p xs
run_return p other [] = rw other refl
run_return p other (x ∷ xs) = rw (run_return p other xs) refl

run_taken : (p : ℕ → Bool) (xs : List ℕ) → take (prefix_len p xs) (xs ++ 13 ∷ []) ≡ take (prefix_len p xs) xs
run_taken p xs = take-append-le (prefix_len p xs) xs (13 ∷ []) (prefix_len-le-length p xs)

number_return : (base before : ℕ) → is_digit 13 base ≡ false → (xs : List ℕ) → number_lexeme base before (xs ++ 13 ∷ []) ≡ number_lexeme base before xs
unfolding number_lexeme digits_lexeme
number_return base before other xs =
    let n = prefix_len (λ b. is_digit b base) xs in
    ap (digits_lexeme base before (xs ++ 13 ∷ [])) (run_return (λ b. is_digit b base) other xs)
    ∙ ap (λ digits. if n == 0 then Bad else sized_number (narrow (value base digits)) (before + n)) (run_taken (λ b. is_digit b base) xs)

name_return : (xs : List ℕ) → name_lexeme (xs ++ 13 ∷ []) ≡ name_lexeme xs
unfolding name_lexeme name_of
name_return xs =
    let n = prefix_len is_name_byte xs in
    ap (name_of (xs ++ 13 ∷ [])) (run_return is_name_byte refl xs)
    ∙ ap (λ name. if nat_le n 32 then Lexed (kind.Name name) n else Bad) (run_taken is_name_byte xs)

quoted_return : (xs : List ℕ) → quoted_lexeme (xs ++ 13 ∷ []) ≡ quoted_lexeme xs
unfolding quoted_lexeme
quoted_return [] = refl
quoted_return (c ∷ []) = grind (arith, nat_tests)
quoted_return (c ∷ quote ∷ rest) = refl

-- a CR at the end changes nothing of what stands before it
lexeme_return : (b : ℕ) (bs : List ℕ) → lexeme (b ∷ (bs ++ 13 ∷ [])) ≡ lexeme (b ∷ bs)
unfolding lexeme
lexeme_return b bs = rw (
  number_return 16 1 refl bs,
  number_return 2 1 refl bs,
  quoted_return bs,
  number_return 10 0 refl (b ∷ bs),
  name_return (b ∷ bs),
) refl

-- ---- tokens

behind_return : (t : Token) (r s : Result (List Token) TokenFault) (ts : List Token) → ((us : List Token) → r ≡ Ok us → s ≡ Ok us)
    → behind t r ≡ Ok ts → behind t s ≡ Ok ts
behind_return t (Ok us) s ts goes h = ap (behind t) (goes us refl) ∙ h
behind_return t (Err e) s ts goes h = cc h

turn_return : (l : Lexeme) (column : ℕ) (bs : List ℕ) (ts : List Token)
    → ((k c : ℕ) (us : List Token) → tokens_at k c (bs ++ 13 ∷ []) ≡ Ok us → tokens_at k c bs ≡ Ok us)
    → turn l column (bs ++ 13 ∷ []) ≡ Ok ts → turn l column bs ≡ Ok ts
turn_return Blank column bs ts goes h = goes 0 (column + 1) ts h
turn_return End column bs ts goes h = h
turn_return Bad column bs ts goes h = h
turn_return Wide column bs ts goes h = h
turn_return (Lexed kind len) column bs ts goes h = behind_return _ _ _ ts (λ us. goes _ _ us) h

no_lexeme : Bad ≡ lexeme (13 ∷ [])
unfolding lexeme
no_lexeme = refl

-- a CR stands behind no token, so before it is a comment
tokens_return : (skip column : ℕ) (front : List ℕ) (ts : List Token) → tokens_at skip column (front ++ 13 ∷ []) ≡ Ok ts → tokens_at skip column front ≡ Ok ts
unfolding tokens_at
tokens_return zero column [] ts h =
    let bad = at_bad column (13 ∷ []) no_lexeme in
    cc (sym bad ∙ h)
tokens_return (suc skip) column [] ts h = h
tokens_return (suc skip) column (b ∷ bs) ts h = tokens_return skip (column + 1) bs ts h
tokens_return zero column (b ∷ bs) ts h =
    let l = lexeme (b ∷ bs) in
    let whole = at_front l column b (bs ++ 13 ∷ []) (sym (lexeme_return b bs)) in
    at_front l column b bs refl ∙ turn_return l column bs ts (λ k c us. tokens_return k c bs us) (sym whole ∙ h)

-- ---- lines

return_ascii : IsAscii (13 ∷ [])
return_ascii zero = lit< tt
return_ascii (suc i) = lit< tt

utf8_return : (front : List ℕ) → IsUtf8 (front ++ 13 ∷ []) → IsUtf8 front
utf8_return front is =
    let seam = IsCharBoundary-at_seam (front ++ 13 ∷ []) front (13 ∷ []) refl (IsUtf8-from_ascii (13 ∷ []) return_ascii) in
    subst IsUtf8 (take-append_seam front (13 ∷ [])) (IsUtf8-take (front ++ 13 ∷ []) (length front) is seam)

tokens_ok : (number : ℕ) (r : Result (List Token) TokenFault) (ts : List Token) → tokens_in number r ≡ Ok ts → r ≡ Ok ts
tokens_ok number (Ok us) ts h = ap Ok (cc h)
tokens_ok number (Err fault) ts h = cc h

-- tokens that are read only of bytes that are UTF-8
abbrev pub read_if : ℕ → Bool → Result (List Token) TokenFault → Result (List Token) AsmFault
read_if number utf8 read = if utf8 then tokens_in number read else Err (record { line = number; column = 1; cause = cause.Utf8 })

line_return : (number : ℕ) (front : List ℕ) (ts : List Token) → line_tokens number (front ++ 13 ∷ []) ≡ Ok ts → line_tokens number front ≡ Ok ts
unfolding line_tokens
line_return number front ts h = by (is_utf8 (front ++ 13 ∷ [])) refl h
  where
    by : (u : Bool) → is_utf8 (front ++ 13 ∷ []) ≡ u → read_if number u (tokens_of (front ++ 13 ∷ [])) ≡ Ok ts → line_tokens number front ≡ Ok ts
    by true utf8 h =
        let front_utf8 = is_utf8-from_IsUtf8 front (utf8_return front (IsUtf8-from_is_utf8 (front ++ 13 ∷ []) utf8)) in
        let read = tokens_return 0 1 front ts (tokens_ok number (tokens_of (front ++ 13 ∷ [])) ts h) in
        rw (front_utf8, read) refl
    by false utf8 h = cc h

-- a line ends with a CR, or it doesn't
data LineEnd (line : List ℕ) : Type 0 where
  unreturned : without_return line ≡ line → LineEnd line
  returned : line ≡ without_return line ++ 13 ∷ [] → LineEnd line

line_end : (line : List ℕ) → LineEnd line
line_end [] = unreturned refl
line_end (b ∷ []) = by (b == 13) refl
  where
    by : (t : Bool) → (b == 13) ≡ t → LineEnd (b ∷ [])
    by true is = returned (grind (arith, nat_tests))
    by false is = unreturned (grind (arith, nat_tests))
line_end (b ∷ c ∷ cs) = by (line_end (c ∷ cs))
  where
    kept : without_return (b ∷ c ∷ cs) ≡ b ∷ without_return (c ∷ cs)
    kept = grind (arith, nat_tests)

    by : LineEnd (c ∷ cs) → LineEnd (b ∷ c ∷ cs)
    by (unreturned same) = unreturned (kept ∙ ap (λ (r : List ℕ). b ∷ r) same)
    by (returned same) = returned (ap (λ (r : List ℕ). b ∷ r) same ∙ ap (λ (r : List ℕ). r ++ 13 ∷ []) (sym kept))

-- the tokens of a line stay without the CR at its end
pub unreturned_tokens : (number : ℕ) (line : List ℕ) (ts : List Token) → line_tokens number line ≡ Ok ts → line_tokens number (without_return line) ≡ Ok ts
unreturned_tokens number line ts h = by (line_end line)
  where
    by : LineEnd line → line_tokens number (without_return line) ≡ Ok ts
    by (unreturned same) = ap (line_tokens number) same ∙ h
    by (returned same) = line_return number (without_return line) ts (ap (line_tokens number) (sym same) ∙ h)
