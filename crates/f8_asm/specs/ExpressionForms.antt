-- What an expression is, as a grammar gives it: which tokens form one, and its value. Nothing here says how tokens are read.
use Rattle.std.specs.Prelude.{◌≡◌, ◌↔◌, ℕ, suc, ◌≤◌, false, List, [], ◌∷◌, ◌++◌, length, Ok}
use Rattle.asm_text.specs.declared.answers.Token.{Token}
use Rattle.asm_text.specs.declared.answers.TokenKind.TheVariants as kind
use Rattle.f8_asm.specs.declared.values.Operator.{Operator}
use Rattle.f8_asm.specs.declared.values.Operator.TheVariants.{Or, And, Plus, Minus, Times, Divide}
use Rattle.f8_asm.specs.declared.values.Prefix.{Prefix}
use Rattle.f8_asm.specs.declared.values.Prefix.TheVariants.{Negative, LowByte, HighByte}
use Rattle.f8_asm.specs.Grammar.{Actions, expression}
use Rattle.f8_asm.specs.Words.{is_reserved}

-- the marks of operators: `|` `&` `+` `-` `*` `/`
abbrev pub operator_mark : Operator → ℕ
operator_mark Or = 124
operator_mark And = 38
operator_mark Plus = 43
operator_mark Minus = 45
operator_mark Times = 42
operator_mark Divide = 47

-- their strengths: an operator of a smaller number goes first
abbrev pub strength_of : Operator → ℕ
strength_of Or = 4
strength_of And = 3
strength_of Plus = 2
strength_of Minus = 2
strength_of Times = 1
strength_of Divide = 1

-- the marks of prefixes: `-` `<` `>`
abbrev pub prefix_mark : Prefix → ℕ
prefix_mark Negative = 45
prefix_mark LowByte = 60
prefix_mark HighByte = 62

-- Tokens form an expression whose operators, but for those in parentheses, have at most this strength, and in which at most so many prefixes
-- and parentheses are open at each token. The value is what the actions make of its parts.
pub data Forms {A : Type 0} (acts : Actions A) : ℕ → ℕ → List Token → A → Type 0 where
  -- an operand: a number,
  number : {depth n : ℕ} {t : Token} → t.kind ≡ kind.Number n → Forms acts 0 depth (t ∷ []) (acts.number n)
  -- a name that isn't reserved,
  name : {depth : ℕ} {name : List ℕ} {t : Token} → t.kind ≡ kind.Name name → is_reserved name ≡ false
      → Forms acts 0 depth (t ∷ []) (acts.name t.column name)
  -- `.` (46),
  here : {depth : ℕ} {t : Token} → t.kind ≡ kind.Mark 46 → Forms acts 0 depth (t ∷ []) acts.here
  -- an operand behind a prefix, which is open until that ends,
  prefix_value : {depth : ℕ} {t : Token} {ts : List Token} {x : A} (prefix : Prefix) → t.kind ≡ kind.Mark (prefix_mark prefix)
      → Forms acts 0 depth ts x → Forms acts 0 (suc depth) (t ∷ ts) (acts.before prefix x)
  -- or an expression between `(` (40) and `)` (41)
  parenthesis_expression : {depth : ℕ} {ts : List Token} {x : A} (t u : Token) → t.kind ≡ kind.Mark 40 → Forms acts 4 depth ts x
      → u.kind ≡ kind.Mark 41 → Forms acts 0 (suc depth) (t ∷ (ts ++ u ∷ [])) x
  -- what has only tighter operators
  tighter : {strength depth : ℕ} {ts : List Token} {x : A} → Forms acts strength depth ts x → Forms acts (suc strength) depth ts x
  -- an operator: on its left the operators may have its strength too, on its right they are tighter
  operator_value : {strength depth : ℕ} {ts us : List Token} {x y : A} (t : Token) (operator : Operator) → strength_of operator ≡ suc strength
      → Forms acts (suc strength) depth ts x → t.kind ≡ kind.Mark (operator_mark operator) → Forms acts strength depth us y
      → Forms acts (suc strength) depth (ts ++ t ∷ us) (acts.between operator x y)

-- no operator stands first
abbrev pub BeginsWithNoOperator : List Token → Type 0
BeginsWithNoOperator [] = Unit {0}
BeginsWithNoOperator (t ∷ ts) = (operator : Operator) → t.kind ≡ kind.Mark (operator_mark operator) → ⊥

-- Tokens begin with an expression of this value, in which at most 64 prefixes and parentheses are open at each token. Behind it these are
-- left, and no operator is the first of them.
pub record BeginsWithExpression {A : Type 0} (acts : Actions A) (ts : List Token) (value : A) (rest : List Token) : Type 0 where
  pub front : List Token
  pub whole : ts ≡ front ++ rest
  pub forms : Forms acts 4 64 front value
  pub ends : BeginsWithNoOperator rest

-- What is read of tokens is exactly the expression that they begin with: so it has one value, and where they begin with none there is a
-- fault. The actions say what numbers, names, `.`, prefixes and operators stand for, and this holds of any.
abbrev pub ExpressionLaw : Type 0 → Type 0
ExpressionLaw A = (acts : Actions A) (ts : List Token) (value : A) (rest : List Token) →
    (expression acts ts ≡ Ok (value, rest)) ↔ BeginsWithExpression acts ts value rest

-- An expression behind which no operator stands is the longest that the tokens begin with.
abbrev pub LongestExpressionLaw : Type 0 → Type 0
LongestExpressionLaw A = (acts : Actions A) (front rest more beyond : List Token) (value other : A) → Forms acts 4 64 front value
    → BeginsWithNoOperator rest → front ++ rest ≡ more ++ beyond → Forms acts 4 64 more other → length more ≤ length front
