-- The grammar of expressions, over any actions on its parts.
use Rattle.std.specs.Borrow.{Bor}
use Rattle.std.specs.Prelude.{ℕ, zero, suc, ◌<◌, ◌&&◌, ◌==◌, List, [], ◌∷◌, Option, Some, None, Result, Ok, Err, if◌then◌else◌, length}
use Rattle.asm_text.specs.declared.answers.Token.{Token}
use Rattle.asm_text.specs.declared.answers.TokenKind.{TokenKind}
use Rattle.asm_text.specs.declared.answers.TokenKind.TheVariants as kind
use Rattle.f8_asm.specs.declared.values.Operator.{Operator}
use Rattle.f8_asm.specs.declared.values.Operator.TheVariants.{Or, And, Plus, Minus, Times, Divide}
use Rattle.f8_asm.specs.declared.values.Prefix.{Prefix}
use Rattle.f8_asm.specs.declared.values.Prefix.TheVariants.{Negative, LowByte, HighByte}
use Rattle.f8_asm.specs.declared.faults.LineFault.{LineFault}
use Rattle.text_lines.specs.declared.read_error.ReadError.{ReadError}
use Rattle.f8_asm.specs.Answers.{form, ◌>>=◌}
use Rattle.f8_asm.specs.Words.{is_reserved}

-- what is made of the parts of an expression
pub record Actions (A : Type 0) : Type 0 where
  pub number : ℕ → A
  pub name : ℕ → List ℕ → A
  pub here : A
  pub before : Prefix → A → A
  pub between : Operator → A → A → A

-- what was read, and the tokens behind it
abbrev pub Read : Type 0 → Type 0
Read A = Result (A × List Token) LineFault

-- where tokens begin, and nothing at the end
abbrev pub column_of : List Token → Option ℕ
column_of [] = None
column_of (t ∷ ts) = Some t.column

-- the operator of a mark, by strength: 1 `*` `/`, 2 `+` `-`, 3 `&`, 4 `|`
abbrev pub mark_operator : ℕ → ℕ → Option Operator
mark_operator strength mark =
    if (strength == 1) && (mark == 42) then Some Times else
    if (strength == 1) && (mark == 47) then Some Divide else
    if (strength == 2) && (mark == 43) then Some Plus else
    if (strength == 2) && (mark == 45) then Some Minus else
    if (strength == 3) && (mark == 38) then Some And else
    if (strength == 4) && (mark == 124) then Some Or else
    None

abbrev pub operator_at : ℕ → TokenKind → Option Operator
operator_at strength (kind.Mark mark) = mark_operator strength mark
operator_at strength (kind.Name name) = None
operator_at strength (kind.Number number) = None

-- operators of one strength, from the left, between operands that `f` reads; there are at most n
unfoldable pub chain : {A : Type 0} → Actions A → ℕ → (List Token → Read A) → ℕ → A → List Token → Read A
chain acts strength f zero left ts = Ok (left, ts)
chain acts strength f (suc n) left [] = Ok (left, [])
chain acts strength f (suc n) left (t ∷ ts) =
    elim (operator_at strength t.kind) [
      | None ↦ Ok (left, t ∷ ts)
      | Some operator ↦ f ts >>= λ r. chain acts strength f n (acts.between operator left r.0) r.1
    ]

-- operators up to this strength, between operands that `f` reads
unfoldable pub level : {A : Type 0} → Actions A → (List Token → Read A) → ℕ → List Token → Read A
level acts f zero ts = f ts
level acts f (suc k) ts = level acts f k ts >>= λ r. chain acts (suc k) (level acts f k) (length r.1) r.0 r.1

-- `)` (41)
abbrev pub parenthesis_end : {A : Type 0} → A → List Token → Read A
parenthesis_end value [] = Err (form None)
parenthesis_end value (t ∷ ts) =
    elim t.kind [
      | kind.Mark mark ↦ if mark == 41 then Ok (value, ts) else Err (form (Some t.column))
      | kind.Name name ↦ Err (form (Some t.column))
      | kind.Number number ↦ Err (form (Some t.column))
    ]

-- an expression in parentheses, behind the first
unfoldable pub parenthesis_expression : {A : Type 0} → Actions A → (List Token → Read A) → List Token → Read A
parenthesis_expression acts f ts = level acts f 4 ts >>= λ r. parenthesis_end r.0 r.1

-- an operand behind a prefix
abbrev pub behind_prefix : {A : Type 0} → Actions A → Prefix → (List Token → Read A) → List Token → Read A
behind_prefix acts prefix f ts = f ts >>= λ r. Ok (acts.before prefix r.0, r.1)

-- an operand that begins with a mark: `.` (46), or where one more prefix or parenthesis may be open `-` (45),
-- `<` (60), `>` (62) or `(` (40)
unfoldable pub mark_operand : {A : Type 0} → Actions A → Option (List Token → Read A) → ℕ → ℕ → List Token → Read A
mark_operand acts None column mark ts = if mark == 46 then Ok (acts.here, ts) else Err (form (Some column))
mark_operand acts (Some f) column mark ts =
    if mark == 46 then Ok (acts.here, ts) else
    if mark == 45 then behind_prefix acts Negative f ts else
    if mark == 60 then behind_prefix acts LowByte f ts else
    if mark == 62 then behind_prefix acts HighByte f ts else
    if mark == 40 then parenthesis_expression acts f ts else
    Err (form (Some column))

-- an operand: a number, a name that isn't reserved, or one that begins with a mark
unfoldable pub operand_of : {A : Type 0} → Actions A → Option (List Token → Read A) → List Token → Read A
operand_of acts inner [] = Err (form None)
operand_of acts inner (t ∷ ts) =
    elim t.kind [
      | kind.Number number ↦ Ok (acts.number number, ts)
      | kind.Name name ↦ if is_reserved name then Err (form (Some t.column)) else Ok (acts.name t.column name, ts)
      | kind.Mark mark ↦ mark_operand acts inner t.column mark ts
    ]

-- an operand in which this many more prefixes and parentheses may be open
unfoldable pub operand : {A : Type 0} → Actions A → ℕ → List Token → Read A
operand acts zero ts = operand_of acts None ts
operand acts (suc depth) ts = operand_of acts (Some (operand acts depth)) ts

-- what may stand behind one more prefix or parenthesis
unfoldable pub deeper : {A : Type 0} → Actions A → ℕ → Option (List Token → Read A)
deeper acts zero = None
deeper acts (suc depth) = Some (operand acts depth)

-- an expression: at most 64 prefixes and parentheses are open at each of its tokens
unfoldable pub expression : {A : Type 0} → Actions A → List Token → Read A
expression acts ts = level acts (operand acts 64) 4 ts

-- fewer tokens are left
abbrev pub ReadsSome : {A : Type 0} → ℕ → Result (A × Bor (List Token)) (ReadError LineFault) → Type 0
ReadsSome n (Ok r) = length r.1.now < n
ReadsSome n (Err stop) = Unit {0}
