-- The lines of a text that compiles: no LF is in one, and each has tokens, with a CR at its end or without.
use Rattle.std.proofs.Common.{◌≡◌, ℕ, ◌+◌, Bool, true, false, List, [], ◌∷◌, Result, Ok, Err, refl, arith}
use Rattle.std.specs.Prelude.{◌==◌, ◌&&◌, if◌then◌else◌}
use Rattle.std.specs.List.{list_all, filter}
use Rattle.std.specs.Str.{is_utf8}
use Rattle.std.proofs.lemmas.Bool.Decides.{nat_tests}
use Rattle.asm_text.specs.Tokens.{tokens_of}
use Rattle.asm_text.specs.declared.answers.Token.{Token}
use Rattle.asm_text.specs.declared.answers.TokenFault.{TokenFault}
use Rattle.f8_asm.specs.Answers.{◌>>=◌}
use Rattle.f8_asm.specs.PassOne.{line_tokens}
use Rattle.f8_asm.specs.Steps.{steps}
use Rattle.f8_asm.specs.declared.answers.AsmFault.{AsmFault}
use Rattle.f8_asm.proofs.Alike.{read-ok}
use Rattle.f8_link.specs.Answers.{told}
use Rattle.f8_link.specs.FirstPass.{Reading, no_reading, read_line, read_lines}
use Rattle.f8_link.specs.Objects.{Object}
use Rattle.f8_link.specs.OneSource.{tokens_in, tokens_read}
use Rattle.f8_link.specs.SecondPass.{no_layout, place_lines}
use Rattle.f8_link.specs.ThirdPass.{compiled, emit_lines, no_code, object_of}
use Rattle.f8_link.proofs.PlainReturns.{read_if}
use Rattle.text_lines.specs.Lines.{begins, with_first, lines}
use Rattle.text_lines.proofs.LineLaws.{no_feed}

-- of each of a list
pub data Each {X : Type 0} (P : X → Type 0) : List X → Type 0 where
  each_none : Each P []
  each_more : {x : X} {xs : List X} → P x → Each P xs → Each P (x ∷ xs)

pub each_filtered : {X : Type 0} {P : X → Type 0} (test : X → Bool) {xs : List X} → Each P xs → Each P (filter test xs)
each_filtered test each_none = each_none
each_filtered {P} test (each_more {x} {xs} first rest) = by (test x) (each_filtered test rest)
  where
    by : (kept : Bool) → Each P (filter test xs) → Each P (if kept then x ∷ filter test xs else filter test xs)
    by true others = each_more first others
    by false others = others

-- ---- no LF

pub record HasNoFeed (line : List ℕ) : Type 0 where
  pub is : list_all no_feed line ≡ true

begun : (b : ℕ) (ls : List (List ℕ)) → (b == 10) ≡ false → Each HasNoFeed ls → Each HasNoFeed (with_first b ls)
begun b [] other each_none = each_more (record { is = grind (arith, nat_tests) }) each_none
begun b (l ∷ ls) other (each_more first rest) = each_more (record { is = grind (arith, nat_tests, first.is) }) rest

pub lines_no_feed : (text : List ℕ) → Each HasNoFeed (lines text)
lines_no_feed [] = each_none
lines_no_feed (b ∷ bs) = by (b == 10) ((b == 13) && begins 10 bs) refl (lines_no_feed bs)
  where
    by : (feed return : Bool) → (b == 10) ≡ feed → Each HasNoFeed (lines bs)
        → Each HasNoFeed (if feed then [] ∷ lines bs else (if return then lines bs else with_first b (lines bs)))
    by true return is rest = each_more (record { is = refl }) rest
    by false true is rest = rest
    by false false is rest = begun b (lines bs) is rest

-- ---- tokens

-- a line has tokens, whatever its number is
pub record HasTokens (line : List ℕ) : Type 0 where
  pub read : (number : ℕ) → line_tokens number line ≡ Ok (tokens_in line)

any_number : (m n : ℕ) (utf8 : Bool) (r : Result (List Token) TokenFault) (ts : List Token) → read_if m utf8 r ≡ Ok ts
    → read_if n utf8 r ≡ Ok (tokens_read (read_if 1 utf8 r))
any_number m n true (Ok us) ts h = refl
any_number m n true (Err fault) ts h = cc h
any_number m n false r ts h = cc h

line_has_tokens : (number : ℕ) (line : List ℕ) (ts : List Token) → line_tokens number line ≡ Ok ts → HasTokens line
unfolding line_tokens
line_has_tokens number line ts h = record { read = λ n. any_number number n (is_utf8 line) (tokens_of line) ts h }

lines_have_tokens : (s t : Reading) (ls : List (List ℕ)) → steps read_line s ls ≡ Ok t → Each HasTokens ls
unfolding steps read_line
lines_have_tokens s t [] h = each_none
lines_have_tokens s t (l ∷ ls) h = read-ok (Each HasTokens (l ∷ ls)) (read_line s l) (λ u. steps read_line u ls) t h
    (λ u is rest. each_more (read-ok (HasTokens l) (line_tokens (s.count + 1) l) _ u is (λ ts read _. line_has_tokens (s.count + 1) l ts read))
    (lines_have_tokens u t ls rest))

told_ok : {A : Type 0} (r : Result A AsmFault) (x : A) → told r ≡ Ok x → r ≡ Ok x
told_ok (Ok y) x h = cc h
told_ok (Err fault) x h = cc h

pub compiled_tokens : (text : List ℕ) (object : Object) → compiled text ≡ Ok object → Each HasTokens (lines text)
unfolding compiled
compiled_tokens text object h = read-ok (Each HasTokens (lines text)) (told (read_lines no_reading (lines text)))
    (λ read. place_lines read.imports no_layout read.lines
    >>= λ laid. emit_lines laid.names read.imports no_code laid.placed >>= λ code. Ok (object_of code read.imports)) object h
    (λ read is _. lines_have_tokens no_reading read (lines text) (told_ok (read_lines no_reading (lines text)) read is))
