-- Operands with some prefixes and parentheses still to open.
use Rattle.std.proofs.Common.{◌≡◌, ℕ, zero, suc, ◌-◌, ◌<◌, List, ◌∷◌, Some, Err, false, refl, arith}
use Rattle.std.specs.Prelude.{◌==◌}
use Rattle.asm_text.specs.declared.answers.Token.{Token}
use Rattle.asm_text.specs.declared.answers.TokenKind.TheVariants as kind
use Rattle.f8_asm.specs.declared.values.Prefix.TheVariants.{Negative, LowByte, HighByte}
use Rattle.f8_asm.specs.Answers.{form}
use Rattle.f8_asm.specs.Grammar.{Actions, behind_prefix, parenthesis_expression, mark_operand, operand_of, operand, deeper}

module _ {A : Type 0} (acts : Actions A) where
  -- one may be opened
  deeper_some : (depth : ℕ) → 0 < depth → deeper acts depth ≡ Some (operand acts (depth - 1))
  unfolding deeper
  deeper_some zero some = absurd (omega arith)
  deeper_some (suc depth) some = let less : suc depth - 1 ≡ depth = omega arith in rw less refl

  -- none may be opened
  pub opened_none : (depth column mark : ℕ) (ts : List Token) → depth ≡ 0 → (mark == 46) ≡ false →
      Err (form (Some column)) ≡ mark_operand acts (deeper acts depth) column mark ts
  unfolding mark_operand deeper
  opened_none depth column mark ts none other = rw (none, other) refl

  pub opened_minus : (depth column mark : ℕ) (ts : List Token) → 0 < depth → mark ≡ 45 →
      behind_prefix acts Negative (operand acts (depth - 1)) ts ≡ mark_operand acts (deeper acts depth) column mark ts
  unfolding mark_operand
  opened_minus depth column mark ts some is = rw (is, deeper_some depth some) refl

  pub opened_low : (depth column mark : ℕ) (ts : List Token) → 0 < depth → mark ≡ 60 →
      behind_prefix acts LowByte (operand acts (depth - 1)) ts ≡ mark_operand acts (deeper acts depth) column mark ts
  unfolding mark_operand
  opened_low depth column mark ts some is = rw (is, deeper_some depth some) refl

  pub opened_high : (depth column mark : ℕ) (ts : List Token) → 0 < depth → mark ≡ 62 →
      behind_prefix acts HighByte (operand acts (depth - 1)) ts ≡ mark_operand acts (deeper acts depth) column mark ts
  unfolding mark_operand
  opened_high depth column mark ts some is = rw (is, deeper_some depth some) refl

  pub opened_parenthesis : (depth column mark : ℕ) (ts : List Token) → 0 < depth → mark ≡ 40 →
      parenthesis_expression acts (operand acts (depth - 1)) ts ≡ mark_operand acts (deeper acts depth) column mark ts
  unfolding mark_operand
  opened_parenthesis depth column mark ts some is = rw (is, deeper_some depth some) refl

  -- an operand that begins with a mark
  pub operand_mark : (depth mark : ℕ) (t : Token) (ts : List Token) → kind.Mark mark ≡ t.kind →
      mark_operand acts (deeper acts depth) t.column mark ts ≡ operand acts depth (t ∷ ts)
  unfolding operand operand_of deeper
  operand_mark zero mark t ts is = rw (← is, operand, operand_of, deeper) refl
  operand_mark (suc depth) mark t ts is = rw (← is, operand, operand_of, deeper) refl
