-- Lines that export and import names, and the words that a module's other lines may not have.
use Rattle.std.specs.Borrow.{Bor}
use Rattle.std.specs.Prelude.{ℕ, Bool, false, ◌||◌, List, [], ◌∷◌, Option, Some, None, is_some, nat_lt, Result, Ok, Err, if◌then◌else◌}
use Rattle.asm_text.specs.declared.answers.Token.{Token}
use Rattle.asm_text.specs.declared.answers.TokenKind.{TokenKind}
use Rattle.asm_text.specs.declared.answers.TokenKind.TheVariants as kind
use Rattle.f8_asm.specs.Answers.{form, ◌>>=◌}
use Rattle.f8_asm.specs.Registers.{same_word}
use Rattle.f8_asm.specs.Statements.{comma}
use Rattle.f8_asm.specs.Words.{is_reserved}
use Rattle.f8_asm.specs.declared.faults.LineFault.{LineFault}
use Rattle.f8_link.specs.declared.directives.Directive.{Directive}
use Rattle.f8_link.specs.declared.directives.Directive.TheVariants.{Export, Import}

-- EXPORT, IMPORT and ORG, in either case
abbrev pub export_word : List ℕ
export_word = 69 ∷ 88 ∷ 80 ∷ 79 ∷ 82 ∷ 84 ∷ []

abbrev pub import_word : List ℕ
import_word = 73 ∷ 77 ∷ 80 ∷ 79 ∷ 82 ∷ 84 ∷ []

abbrev pub org_word : List ℕ
org_word = 79 ∷ 82 ∷ 71 ∷ []

abbrev pub directive_word : List ℕ → Option Directive
directive_word name = if same_word name export_word then Some Export else (if same_word name import_word then Some Import else None)

abbrev pub directive_in : TokenKind → Option Directive
directive_in (kind.Name name) = directive_word name
directive_in (kind.Number number) = None
directive_in (kind.Mark mark) = None

-- the directive that a line begins with
abbrev pub directive_of : List Token → Option Directive
directive_of [] = None
directive_of (t ∷ ts) = directive_in t.kind

-- ---- names with commas between them

-- a name that a line may give
abbrev pub name_in : TokenKind → ℕ → Result (List ℕ) LineFault
name_in (kind.Name name) column = if is_reserved name || is_some (directive_word name) then Err (form (Some column)) else Ok name
name_in (kind.Number number) column = Err (form (Some column))
name_in (kind.Mark mark) column = Err (form (Some column))

-- a name at the front of tokens, its column, and the tokens behind it
abbrev pub name_at : List Token → Result (ℕ × List ℕ × List Token) LineFault
name_at [] = Err (form None)
name_at (t ∷ ts) = name_in t.kind t.column >>= λ name. Ok (t.column, name, ts)

-- what was read, as values
abbrev pub name_at_seen : Result (ℕ × Bor (List ℕ) × Bor (List Token)) LineFault → Result (ℕ × List ℕ × List Token) LineFault
name_at_seen (Ok r) = Ok (r.0, r.1.now, r.2.now)
name_at_seen (Err fault) = Err fault

-- names with commas between them, at least one, each taken by `take` before what follows it is read
unfoldable pub names_taken : {S : Type 0} → (S → ℕ → List ℕ → Result S LineFault) → S → List Token → Result S LineFault
names_taken take s [] = Err (form None)
names_taken take s (t ∷ []) = name_in t.kind t.column >>= λ name. take s t.column name
names_taken take s (t ∷ c ∷ ts) =
    name_in t.kind t.column >>= λ name. take s t.column name >>= λ u. comma (c ∷ ts) >>= λ _. names_taken take u ts

-- ---- words that other lines may not have

abbrev pub is_stray : List ℕ → Bool
is_stray name = same_word name org_word || is_some (directive_word name)

abbrev pub stray_in : TokenKind → Bool
stray_in (kind.Name name) = is_stray name
stray_in (kind.Number number) = false
stray_in (kind.Mark mark) = false

-- where the first of them stands
unfoldable pub stray : List Token → Option ℕ
stray [] = None
stray (t ∷ ts) = if stray_in t.kind then Some t.column else stray ts

-- a fault's column is before another; the line's end is before none
abbrev pub stands_before : Option ℕ → ℕ → Bool
stands_before (Some d) column = nat_lt d column
stands_before None column = false

-- a fault of a line, or that of a word that it may not have, whichever stands first
abbrev pub first_fault : Option ℕ → LineFault → LineFault
first_fault None fault = fault
first_fault (Some column) fault = if stands_before fault.column column then fault else form (Some column)

-- what is read of a line that may have such a word
abbrev pub unless_stray : {A : Type 0} → Option ℕ → Result A LineFault → Result A LineFault
unless_stray None (Ok x) = Ok x
unless_stray (Some column) (Ok x) = Err (form (Some column))
unless_stray where_stray (Err fault) = Err (first_fault where_stray fault)
