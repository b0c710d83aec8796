-- Names with commas between them: where the loop over them goes on and ends.
use Rattle.std.proofs.Common.{◌≡◌, ℕ, ◌<◌, Bool, true, false, List, [], ◌∷◌, length, Result, Ok, Err, refl, sym, ap, ◌∙◌, arith}
use Rattle.std.specs.Prelude.{if◌then◌else◌, Some, ◌==◌}
use Rattle.asm_text.specs.declared.answers.Token.{Token}
use Rattle.asm_text.specs.declared.answers.TokenKind.{TokenKind}
use Rattle.asm_text.specs.declared.answers.TokenKind.TheVariants as kind
use Rattle.f8_asm.specs.Answers.{form, ◌>>=◌}
use Rattle.f8_asm.specs.Statements.{mark_in, comma}
use Rattle.f8_asm.specs.declared.faults.LineFault.{LineFault}
use Rattle.text_lines.specs.declared.read_error.ReadError.{ReadError}
use Rattle.text_lines.specs.declared.read_error.ReadError.TheVariants as stop
use Rattle.text_lines.specs.ReadErrors.{StepsTo}
use Rattle.f8_link.specs.Directives.{name_in, name_at, names_taken}

-- ---- one name

failed_in : {A B : Type 0} (r : Result (List ℕ) LineFault) (f : List ℕ → A) (g : List ℕ → Result B LineFault) (fault : LineFault)
    → (r >>= λ name. Ok (f name)) ≡ Err fault → (r >>= g) ≡ Err fault
failed_in (Ok name) f g fault h = cc h
failed_in (Err e) f g fault h = ap Err (cc h)

record Read (r : Result (List ℕ) LineFault) (at column : ℕ) (name : List ℕ) (ts behind : List Token) : Type 0 where
  is : r ≡ Ok name
  at_column : at ≡ column
  rest : ts ≡ behind

read_in : (r : Result (List ℕ) LineFault) (at column : ℕ) (name : List ℕ) (ts behind : List Token)
    → ◌>>=◌ {B = ℕ × List ℕ × List Token} r (λ name. Ok (at, name, ts)) ≡ Ok (column, name, behind) → Read r at column name ts behind
read_in (Ok x) at column name ts behind h =
    let same : ◌≡◌ {A = ℕ × List ℕ × List Token} (at, x, ts) (column, name, behind) = cc h in
    record { is = ap (λ (r : ℕ × List ℕ × List Token). Ok r.1) same; at_column = ap (λ r. r.0) same; rest = ap (λ r. r.2) same }
read_in (Err e) at column name ts behind h = cc h

marked_in : (b : Bool) (column : ℕ) (ts rest : List Token) → (if b then Ok ts else Err (form (Some column))) ≡ Ok rest → ts ≡ rest
marked_in true column ts rest h = cc h
marked_in false column ts rest h = cc h

mark_behind : (k : TokenKind) (column : ℕ) (ts rest : List Token) → mark_in 44 k column ts ≡ Ok rest → ts ≡ rest
mark_behind (kind.Mark m) column ts rest h = marked_in (m == 44) column ts rest h
mark_behind (kind.Name name) column ts rest h = cc h
mark_behind (kind.Number number) column ts rest h = cc h

-- ---- all of them

module _ {S : Type 0} (take : S → ℕ → List ℕ → Result S LineFault) (s : S) where
  pub names_fail : (ts : List Token) (fault : LineFault) → name_at ts ≡ Err fault → names_taken take s ts ≡ Err fault
  unfolding names_taken
  names_fail [] fault h = ap Err (cc h)
  names_fail (t ∷ []) fault h = failed_in (name_in t.kind t.column) _ _ fault h
  names_fail (t ∷ c ∷ ts) fault h = failed_in (name_in t.kind t.column) _ _ fault h

  -- a name, and what is left of the line behind it
  module _ (column : ℕ) (name : List ℕ) where
    read_of : (t : Token) (ts behind : List Token) → name_at (t ∷ ts) ≡ Ok (column, name, behind)
        → Read (name_in t.kind t.column) t.column column name ts behind
    read_of t ts behind h = read_in (name_in t.kind t.column) t.column column name ts behind h

    pub names_last : (ts : List Token) → name_at ts ≡ Ok (column, name, []) → names_taken take s ts ≡ take s column name
    unfolding names_taken
    names_last [] h = cc h
    names_last (t ∷ []) h = let read = read_of t [] [] h in rw (read.is, read.at_column) refl
    names_last (t ∷ c ∷ ts) h = let read = read_of t (c ∷ ts) [] h in cc read.rest

    pub names_refused : (ts behind : List Token) (fault : LineFault) → name_at ts ≡ Ok (column, name, behind) → take s column name ≡ Err fault
        → names_taken take s ts ≡ Err fault
    unfolding names_taken
    names_refused [] behind fault h told = cc h
    names_refused (t ∷ []) behind fault h told = let read = read_of t [] behind h in rw (read.is, read.at_column) told
    names_refused (t ∷ c ∷ ts) behind fault h told = let read = read_of t (c ∷ ts) behind h in rw (read.is, read.at_column, told) refl

    module _ (u : S) (told : take s column name ≡ Ok u) where
      pub names_no_comma : (ts behind : List Token) (fault : LineFault) → 0 < length behind → name_at ts ≡ Ok (column, name, behind)
          → comma behind ≡ Err fault → names_taken take s ts ≡ Err fault
      unfolding names_taken
      names_no_comma [] behind fault some h failed = cc h
      names_no_comma (t ∷ []) behind fault some h failed =
          let read = read_of t [] behind h in
          absurd (omega (arith, rw (← read.rest) at some))
      names_no_comma (t ∷ c ∷ ts) behind fault some h failed =
          let read = read_of t (c ∷ ts) behind h in
          let no_comma : comma (c ∷ ts) ≡ Err fault = ap comma read.rest ∙ failed in
          rw (read.is, read.at_column, told, no_comma) refl

      pub names_more : (ts behind rest : List Token) → 0 < length behind → name_at ts ≡ Ok (column, name, behind) → comma behind ≡ Ok rest
          → names_taken take u rest ≡ names_taken take s ts
      unfolding names_taken
      names_more [] behind rest some h at_comma = cc h
      names_more (t ∷ []) behind rest some h at_comma =
          let read = read_of t [] behind h in
          absurd (omega (arith, rw (← read.rest) at some))
      names_more (t ∷ c ∷ ts) behind rest some h at_comma =
          let read = read_of t (c ∷ ts) behind h in
          let is : comma (c ∷ ts) ≡ Ok rest = ap comma read.rest ∙ at_comma in
          rw (read.is, read.at_column, told, is) (ap (λ q. names_taken take u q) (sym (mark_behind c.kind c.column ts rest is)))

-- a name isn't taken, or memory is missing
pub names_stop : {S : Type 0} (take : S → ℕ → List ℕ → Result S LineFault) (s t : S) (column : ℕ) (name : List ℕ) (ts behind : List Token)
    (e : ReadError LineFault) (whole : Result S LineFault) → names_taken take s ts ≡ whole → name_at ts ≡ Ok (column, name, behind)
    → StepsTo (Err e) t (take s column name) → StepsTo (Err e) t whole
names_stop take s t column name ts behind (stop.Fault fault) whole is read told = sym is ∙ names_refused take s column name ts behind fault read told
names_stop take s t column name ts behind stop.Memory whole is read told = tt
