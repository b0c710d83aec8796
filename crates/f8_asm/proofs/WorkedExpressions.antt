-- Expressions worked by hand in the grammar, from their text to their value.
use Rattle.std.proofs.Common.{ℕ, ◌+◌, pos, negsuc, List, [], ◌∷◌, Ok, Err, refl}
use Rattle.std.specs.Prelude.{codes}
use Rattle.asm_text.specs.Tokens.{tokens_of}
use Rattle.asm_text.specs.declared.answers.Token.{Token}
use Rattle.asm_text.specs.declared.answers.TokenKind.{TokenKind}
use Rattle.asm_text.specs.declared.answers.TokenKind.TheVariants as kind
use Rattle.f8_asm.specs.declared.values.Operator.TheVariants.{Or, Plus, Minus, Times}
use Rattle.f8_asm.specs.declared.values.Outcome.{Outcome}
use Rattle.f8_asm.specs.declared.values.Outcome.TheVariants.{Value}
use Rattle.f8_asm.specs.declared.values.Prefix.TheVariants.{Negative}
use Rattle.f8_asm.specs.Evaluation.{values}
use Rattle.f8_asm.specs.ExpressionForms.{Forms, number, prefix_value, parenthesis_expression, tighter, operator_value}
use Rattle.f8_asm.proofs.ListedBytes.{numbers_open}

abbrev tokens : List ℕ → List Token
tokens text = elim (tokens_of text) [ Ok ts ↦ ts | Err fault ↦ [] ]

-- a token of one byte
abbrev byte_at : ℕ → TokenKind → Token
byte_at column k = record { column = column; end = column + 1; kind = k }

-- an expression of this value
abbrev IsWorth : List ℕ → Outcome → Type 0
IsWorth text value = Forms (values [] 0) 4 64 (tokens text) value

-- a digit, where operators may have this strength
abbrev Digit : ℕ → ℕ → ℕ → ℕ → Type 0
Digit strength depth column n = Forms (values [] 0) strength depth (byte_at column (kind.Number n) ∷ []) (Value (pos n))

digit : (depth column n : ℕ) → Digit 0 depth column n
digit depth column n = number refl

-- `1 - 2 - 3` is (1 - 2) - 3, and so -4
from_the_left : IsWorth (codes "1 - 2 - 3") (Value (negsuc 3))
unfolding numbers_open
from_the_left =
    let one_less_two = operator_value (byte_at 3 (kind.Mark 45)) Minus refl (tighter (tighter (digit 64 1 1))) refl (tighter (digit 64 5 2)) in
    tighter (tighter (operator_value (byte_at 7 (kind.Mark 45)) Minus refl one_less_two refl (tighter (digit 64 9 3))))

-- `-1 + 2` is (-1) + 2, and so 1
prefix_first : IsWorth (codes "-1 + 2") (Value (pos 1))
unfolding numbers_open
prefix_first =
    let minus_one = prefix_value {t = byte_at 1 (kind.Mark 45)} Negative refl (digit 63 2 1) in
    tighter (tighter (operator_value (byte_at 4 (kind.Mark 43)) Plus refl (tighter (tighter minus_one)) refl (tighter (digit 64 6 2))))

-- `2 * (3 | 4)` is 2 times 7
parentheses_first : IsWorth (codes "2 * (3 | 4)") (Value (pos 14))
unfolding numbers_open
parentheses_first =
    let three_or_four = operator_value (byte_at 8 (kind.Mark 124)) Or refl (tighter (tighter (tighter (tighter (digit 63 6 3))))) refl
    (tighter (tighter (tighter (digit 63 10 4)))) in
    let inside = parenthesis_expression (byte_at 5 (kind.Mark 40)) (byte_at 11 (kind.Mark 41)) refl three_or_four refl in
    tighter (tighter (tighter (operator_value (byte_at 3 (kind.Mark 42)) Times refl (tighter (digit 64 1 2)) refl inside)))
