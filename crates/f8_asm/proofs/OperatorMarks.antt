-- The marks of operators, and what stands behind an expression.
use Rattle.std.proofs.Common.{◌≡◌, ℕ, suc, ◌<◌, ◌≤◌, List, [], ◌∷◌, Option, Some, None, refl, sym, ap, ◌∙◌, arith}
use Rattle.std.specs.Prelude.{◌==◌, if◌then◌else◌}
use Rattle.std.proofs.lemmas.Bool.Decides.{nat_tests}
use Rattle.asm_text.specs.declared.answers.Token.{Token}
use Rattle.asm_text.specs.declared.answers.TokenKind.{TokenKind}
use Rattle.asm_text.specs.declared.answers.TokenKind.TheVariants as kind
use Rattle.f8_asm.specs.declared.values.Operator.{Operator}
use Rattle.f8_asm.specs.declared.values.Operator.TheVariants.{Or, And, Plus, Minus, Times, Divide}
use Rattle.f8_asm.specs.ExpressionForms.{operator_mark, strength_of, BeginsWithNoOperator}
use Rattle.f8_asm.specs.Grammar.{mark_operator, operator_at}

-- a mark is this operator, of this strength
pub record IsMarkOf (strength mark : ℕ) (operator : Operator) : Type 0 where
  pub mark_is : mark ≡ operator_mark operator
  pub strength_is : strength_of operator ≡ strength

marks_with : (strength mark : ℕ) (operator : Operator) → mark_operator strength mark ≡ Some operator → IsMarkOf strength mark operator
marks_with strength mark operator is = grind (arith, nat_tests)

marked_at : (strength : ℕ) (operator : Operator) → strength_of operator ≡ strength → mark_operator strength (operator_mark operator) ≡ Some operator
marked_at strength Or is = rw (← is) refl
marked_at strength And is = rw (← is) refl
marked_at strength Plus is = rw (← is) refl
marked_at strength Minus is = rw (← is) refl
marked_at strength Times is = rw (← is) refl
marked_at strength Divide is = rw (← is) refl

-- the operator of a token
pub record IsOperatorOf (strength : ℕ) (k : TokenKind) (operator : Operator) : Type 0 where
  pub kind_is : k ≡ kind.Mark (operator_mark operator)
  pub strength_is : strength_of operator ≡ strength

pub operator_is : (strength : ℕ) (k : TokenKind) (operator : Operator) → operator_at strength k ≡ Some operator → IsOperatorOf strength k operator
operator_is strength (kind.Mark mark) operator is =
    let found = marks_with strength mark operator is in
    record { kind_is = ap kind.Mark found.mark_is; strength_is = found.strength_is }
operator_is strength (kind.Name name) operator is = cc
operator_is strength (kind.Number number) operator is = cc

pub is_operator : (strength : ℕ) (k : TokenKind) (operator : Operator) → k ≡ kind.Mark (operator_mark operator) → strength_of operator ≡ strength
    → operator_at strength k ≡ Some operator
is_operator strength k operator is strong = rw is (marked_at strength operator strong)

-- the strength of a mark's operator
abbrev mark_strength : ℕ → ℕ
mark_strength mark = if mark == 124 then 4 else if mark == 38 then 3 else if mark == 43 then 2 else if mark == 45 then 2 else 1

mark_strength_is : (operator : Operator) → mark_strength (operator_mark operator) ≡ strength_of operator
mark_strength_is Or = refl
mark_strength_is And = refl
mark_strength_is Plus = refl
mark_strength_is Minus = refl
mark_strength_is Times = refl
mark_strength_is Divide = refl

-- one mark has one strength
pub one_strength : (k : TokenKind) (operator other : Operator) → k ≡ kind.Mark (operator_mark operator) → k ≡ kind.Mark (operator_mark other)
    → strength_of operator ≡ strength_of other
one_strength k operator other is also =
    let same : operator_mark operator ≡ operator_mark other = cc (is, also) in
    sym (mark_strength_is operator) ∙ ap mark_strength same ∙ mark_strength_is other

some_strength : (operator : Operator) → 0 < strength_of operator
some_strength Or = omega arith
some_strength And = omega arith
some_strength Plus = omega arith
some_strength Minus = omega arith
some_strength Times = omega arith
some_strength Divide = omega arith

most_strength : (operator : Operator) → strength_of operator ≤ 4
most_strength Or = omega arith
most_strength And = omega arith
most_strength Plus = omega arith
most_strength Minus = omega arith
most_strength Times = omega arith
most_strength Divide = omega arith

-- no operator up to this strength stands first
abbrev pub Ends : ℕ → List Token → Type 0
Ends strength [] = Unit {0}
Ends strength (t ∷ ts) = (operator : Operator) → strength_of operator ≤ strength → t.kind ≡ kind.Mark (operator_mark operator) → ⊥

-- there is no operator of strength 0
pub ends_operand : (ts : List Token) → Ends 0 ts
ends_operand [] = tt
ends_operand (t ∷ ts) = λ operator weak is. let some = some_strength operator in absurd (omega arith)

-- and none above 4
pub ends_all : (ts : List Token) → Ends 4 ts → BeginsWithNoOperator ts
ends_all [] ends = tt
ends_all (t ∷ ts) ends = λ operator is. ends operator (most_strength operator) is

pub all_ends : (ts : List Token) → BeginsWithNoOperator ts → Ends 4 ts
all_ends [] none = tt
all_ends (t ∷ ts) none = λ operator weak is. none operator is

-- where no operator up to a strength stands first, none up to the strength below does
pub ends_below : (strength : ℕ) (ts : List Token) → Ends (suc strength) ts → Ends strength ts
ends_below strength [] ends = tt
ends_below strength (t ∷ ts) ends = λ operator weak is. ends operator (omega arith) is

-- nor one up to the strength above, where the token is none of that
pub ends_here : (strength : ℕ) (t : Token) (ts : List Token) → Ends strength (t ∷ ts) → None ≡ operator_at (suc strength) t.kind
    → Ends (suc strength) (t ∷ ts)
ends_here strength t ts ends none = λ operator weak is. goes operator weak is
  where
    next : (operator : Operator) → t.kind ≡ kind.Mark (operator_mark operator) → strength_of operator ≡ suc strength → ⊥
    next operator is strong = let one = is_operator (suc strength) t.kind operator is strong in cc

    goes : (operator : Operator) → strength_of operator ≤ suc strength → t.kind ≡ kind.Mark (operator_mark operator) → ⊥
    goes operator weak is = grind (arith, ends, next)

-- where no operator up to a strength stands first, none of that strength does
pub none_here : (strength : ℕ) (t : Token) (ts : List Token) → Ends strength (t ∷ ts) → None ≡ operator_at strength t.kind
none_here strength t ts ends = goes (operator_at strength t.kind) refl
  where
    goes : (o : Option Operator) → o ≡ operator_at strength t.kind → None ≡ o
    goes None is = refl
    goes (Some operator) is =
        let found = operator_is strength t.kind operator (sym is) in
        absurd (ends operator (let strong = found.strength_is in omega arith) found.kind_is)

-- an operator is none of the tighter ones
pub ends_before : (strength : ℕ) (t : Token) (ts : List Token) (operator : Operator) → strength_of operator ≡ suc strength
    → t.kind ≡ kind.Mark (operator_mark operator) → Ends strength (t ∷ ts)
ends_before strength t ts operator strong is = λ other weak also. let same = one_strength t.kind operator other is also in absurd (omega arith)

-- `)` is no operator
not_closed : (operator : Operator) → 41 ≡ operator_mark operator → ⊥
not_closed Or same = omega arith
not_closed And same = omega arith
not_closed Plus same = omega arith
not_closed Minus same = omega arith
not_closed Times same = omega arith
not_closed Divide same = omega arith

-- the byte of a mark
abbrev byte_of : TokenKind → ℕ
byte_of (kind.Mark mark) = mark
byte_of (kind.Name name) = 0
byte_of (kind.Number number) = 0

pub ends_closed : (strength : ℕ) (u : Token) (ts : List Token) → u.kind ≡ kind.Mark 41 → Ends strength (u ∷ ts)
ends_closed strength u ts is = λ operator weak also. not_closed operator (ap byte_of (sym is ∙ also))
