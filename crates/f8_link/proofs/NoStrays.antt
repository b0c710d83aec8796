-- No statement's line of a module that compiles has one of the words ORG, EXPORT and IMPORT.
use Rattle.std.proofs.Common.{◌≡◌, ℕ, ◌+◌, Bool, true, false, not, cond, List, [], ◌∷◌, map, filter, Option, Some, None, is_some, Result}
use Rattle.std.proofs.Common.{Ok, Err, refl, sym, ap, ◌∙◌}
use Rattle.std.specs.Prelude.{if◌then◌else◌}
use Rattle.std.specs.Str.{is_utf8}
use Rattle.asm_text.specs.Tokens.{tokens_of}
use Rattle.asm_text.specs.declared.answers.Token.{Token}
use Rattle.asm_text.specs.declared.answers.TokenFault.{TokenFault}
use Rattle.f8_asm.specs.ParsedLines.{parsed, names_after}
use Rattle.f8_asm.specs.PassOne.{in_line, line_tokens, tokens_in as tokens_told}
use Rattle.f8_asm.specs.Statements.{label_of}
use Rattle.f8_asm.specs.Steps.{steps}
use Rattle.f8_asm.specs.declared.answers.AsmFault.{AsmFault}
use Rattle.f8_asm.specs.declared.faults.LineFault.{LineFault}
use Rattle.f8_asm.proofs.Alike.{read-ok}
use Rattle.f8_asm.proofs.ImageRooms.{in_line-ok}
use Rattle.f8_link.specs.declared.directives.Directive.{Directive}
use Rattle.f8_link.specs.Directives.{directive_of, stray, unless_stray}
use Rattle.f8_link.specs.FirstPass.{Reading, no_reading, line_taken, tokens_taken, read_line, read_lines}
use Rattle.f8_link.specs.OneSource.{tokens_read, tokens_in, is_statement, statement_lines}
use Rattle.f8_link.proofs.ModulePlaced.{NoStray}
use Rattle.text_lines.specs.Lines.{lines}

-- the tokens of a line don't hang on its number
tokens_by : (number : ℕ) (t : Bool) (r : Result (List Token) TokenFault) (e f : AsmFault) (ts : List Token)
    → (if t then tokens_told number r else Err e) ≡ Ok ts → tokens_read (if t then tokens_told 1 r else Err f) ≡ ts
tokens_by number true (Ok us) e f ts h = cc h
tokens_by number true (Err fault) e f ts h = cc h
tokens_by number false r e f ts h = cc h

tokens_same : (number : ℕ) (l : List ℕ) (ts : List Token) → line_tokens number l ≡ Ok ts → tokens_in l ≡ ts
unfolding line_tokens
tokens_same number l ts h = tokens_by number (is_utf8 l) (tokens_of l) _ _ ts h

none_stray : {A : Type 0} (at : Option ℕ) (r : Result A LineFault) (x : A) → unless_stray at r ≡ Ok x → at ≡ None
none_stray None r x h = refl
none_stray (Some column) (Ok y) x h = cc h
none_stray (Some column) (Err f) x h = cc h

-- a line whose tokens begin with no directive
taken_plain : (number : ℕ) (s t : Reading) (ts : List Token) (d : Option Directive) → d ≡ None → line_taken number s ts d ≡ Ok t → stray ts ≡ None
taken_plain number s t ts None none h =
    read-ok (stray ts ≡ None) (names_after s.known ts (label_of ts)) _ t h (λ known at_known h.
    read-ok (stray ts ≡ None) (unless_stray (stray ts) (parsed number ts)) _ t h (λ l at_l h.
    none_stray (stray ts) (parsed number ts) l at_l))
taken_plain number s t ts (Some d) none h = cc none

not_some : (o : Option Directive) → not (is_some o) ≡ true → o ≡ None
not_some None h = refl
not_some (Some d) h = cc h

line_plain : (s t : Reading) (l : List ℕ) → read_line s l ≡ Ok t → is_statement l ≡ true → stray (tokens_in l) ≡ None
unfolding read_line tokens_taken
line_plain s t l h is =
    let number : ℕ = s.count + 1 in
    read-ok (stray (tokens_in l) ≡ None) (line_tokens number l) _ t h (λ ts at_ts h.
    read-ok (stray (tokens_in l) ≡ None) (in_line number ts (tokens_taken number s ts)) _ t h (λ u at_u h.
    let same : tokens_in l ≡ ts = tokens_same number l ts at_ts in
    let none : directive_of ts ≡ None = ap directive_of (sym same) ∙ not_some (directive_of (tokens_in l)) is in
    let taken = in_line-ok number ts (tokens_taken number s ts) u at_u in
    ap stray same ∙ taken_plain number s u ts (directive_of ts) none taken))

plain_more : (t : Bool) (l : List ℕ) (ls : List (List ℕ)) → (t ≡ true → stray (tokens_in l) ≡ None) → NoStray (map tokens_in ls)
    → NoStray (map tokens_in (cond t (l ∷ ls) ls))
plain_more true l ls one rest = (one refl, rest)
plain_more false l ls one rest = rest

lines_plain : (ls : List (List ℕ)) (s t : Reading) → read_lines s ls ≡ Ok t → NoStray (map tokens_in (filter is_statement ls))
unfolding steps
lines_plain [] s t h = tt
lines_plain (l ∷ ls) s t h =
    read-ok (NoStray (map tokens_in (filter is_statement (l ∷ ls)))) (read_line s l) _ t h (λ u at_u h.
    plain_more (is_statement l) l (filter is_statement ls) (λ is. line_plain s u l at_u is) (lines_plain ls u t h))

-- of a text's lines
pub first_pass_plain : (text : List ℕ) (read : Reading) → read_lines no_reading (lines text) ≡ Ok read → NoStray (map tokens_in (statement_lines text))
first_pass_plain text read h = lines_plain (lines text) no_reading read h
