-- An expression that is read with two kinds of values: both readings go equally far, and what they give goes together as its parts do.
use Rattle.std.proofs.Common.{◌≡◌, ℕ, zero, suc, List, [], ◌∷◌, length, Option, Some, None, refl}
use Rattle.std.specs.Prelude.{◌==◌}
use Rattle.asm_text.specs.declared.answers.Token.{Token}
use Rattle.asm_text.specs.declared.answers.TokenKind.{TokenKind}
use Rattle.asm_text.specs.declared.answers.TokenKind.TheVariants as kind
use Rattle.f8_asm.specs.declared.values.Operator.{Operator}
use Rattle.f8_asm.specs.declared.values.Prefix.{Prefix}
use Rattle.f8_asm.specs.declared.values.Prefix.TheVariants.{Negative, LowByte, HighByte}
use Rattle.f8_asm.specs.Words.{is_reserved}
use Rattle.f8_asm.specs.Grammar.{Actions, Read, operator_at, chain, level, parenthesis_end, parenthesis_expression}
use Rattle.f8_asm.specs.Grammar.{behind_prefix, mark_operand, operand_of, operand, expression}
use Rattle.f8_asm.proofs.Alike.{Alike, alike_ok, alike_err, alike_then, alike_if}
use Rattle.f8_asm.proofs.Chain.{at_token}

-- values that go together stay so behind whatever is done with them
pub record Actalike {A B : Type 0} (R : A → B → Type 0) (a : Actions A) (b : Actions B) : Type 0 where
  pub number : (n : ℕ) → R (a.number n) (b.number n)
  pub name : (column : ℕ) (name : List ℕ) → R (a.name column name) (b.name column name)
  pub here : R a.here b.here
  pub before : (prefix : Prefix) (x : A) (y : B) → R x y → R (a.before prefix x) (b.before prefix y)
  pub between : (operator : Operator) (x u : A) (y v : B) → R x y → R u v → R (a.between operator x u) (b.between operator y v)

-- they go together, and the same tokens are left
abbrev pub ReadAlike : {A B : Type 0} → (A → B → Type 0) → (A × List Token) → (B × List Token) → Type 0
ReadAlike R x y = R x.0 y.0 × (x.1 ≡ y.1)

module _ {A B : Type 0} {R : A → B → Type 0} {a : Actions A} {b : Actions B} (all : Actalike R a b) (f : List Token → Read A) (g : List Token → Read B)
    (each : (ts : List Token) → Alike (ReadAlike R) (f ts) (g ts)) where
  chain_alike : (strength n : ℕ) (x : A) (y : B) (ts : List Token) → R x y
      → Alike (ReadAlike R) (chain a strength f n x ts) (chain b strength g n y ts)
  unfolding chain
  chain_alike strength zero x y ts so = alike_ok (so, refl)
  chain_alike strength (suc n) x y [] so = alike_ok (so, refl)
  chain_alike strength (suc n) x y (t ∷ ts) so = goes (λ u v us now. chain_alike strength n u v us now) (operator_at strength t.kind) refl
    where
      goes : ((u : A) (v : B) (us : List Token) → R u v → Alike (ReadAlike R) (chain a strength f n u us) (chain b strength g n v us))
          → (o : Option Operator) → o ≡ operator_at strength t.kind
          → Alike (ReadAlike R) (chain a strength f (suc n) x (t ∷ ts)) (chain b strength g (suc n) y (t ∷ ts))
      goes further None is = rw (at_token a strength f None n x t ts is, at_token b strength g None n y t ts is) (alike_ok (so, refl))
      goes further (Some operator) is =
          rw (at_token a strength f (Some operator) n x t ts is, at_token b strength g (Some operator) n y t ts is)
          (alike_then (each ts) (λ r s same. rw same.1
          (further (a.between operator x r.0) (b.between operator y s.0) s.1 (all.between operator x r.0 y s.0 so same.0))))

module _ {A B : Type 0} {R : A → B → Type 0} {a : Actions A} {b : Actions B} (all : Actalike R a b) (f : List Token → Read A) (g : List Token → Read B)
    (each : (ts : List Token) → Alike (ReadAlike R) (f ts) (g ts)) where
  level_alike : (k : ℕ) (ts : List Token) → Alike (ReadAlike R) (level a f k ts) (level b g k ts)
  unfolding level
  level_alike zero ts = each ts
  level_alike (suc k) ts =
      alike_then (level_alike k ts)
      (λ r s same. rw same.1 (chain_alike all (level a f k) (level b g k) (λ us. level_alike k us) (suc k) (length s.1) r.0 s.0 s.1 same.0))

closed_alike : {A B : Type 0} (R : A → B → Type 0) (x : A) (y : B) (ts : List Token) → R x y
    → Alike (ReadAlike R) (parenthesis_end x ts) (parenthesis_end y ts)
closed_alike R x y [] so = alike_err
closed_alike {A} {B} R x y (t ∷ ts) so = goes t.kind refl
  where
    goes : (k : TokenKind) → k ≡ t.kind → Alike (ReadAlike R) (parenthesis_end x (t ∷ ts)) (parenthesis_end y (t ∷ ts))
    goes (kind.Mark mark) is = rw (← is) (alike_if (mark == 41) (alike_ok (so, refl)) alike_err)
    goes (kind.Name name) is = rw (← is) alike_err
    goes (kind.Number number) is = rw (← is) alike_err

module _ {A B : Type 0} {R : A → B → Type 0} {a : Actions A} {b : Actions B} (all : Actalike R a b) (f : List Token → Read A) (g : List Token → Read B)
    (each : (ts : List Token) → Alike (ReadAlike R) (f ts) (g ts)) where
  parenthesised_alike : (ts : List Token) → Alike (ReadAlike R) (parenthesis_expression a f ts) (parenthesis_expression b g ts)
  unfolding parenthesis_expression
  parenthesised_alike ts = alike_then (level_alike all f g each 4 ts) (λ r s same. rw same.1 (closed_alike R r.0 s.0 s.1 same.0))

  prefix_alike : (prefix : Prefix) (ts : List Token) → Alike (ReadAlike R) (behind_prefix a prefix f ts) (behind_prefix b prefix g ts)
  prefix_alike prefix ts = alike_then (each ts) (λ r s same. alike_ok (all.before prefix r.0 s.0 same.0, same.1))

  opened_alike : (column mark : ℕ) (ts : List Token) → Alike (ReadAlike R) (mark_operand a (Some f) column mark ts) (mark_operand b (Some g) column mark ts)
  unfolding mark_operand
  opened_alike column mark ts =
      alike_if (mark == 46) (alike_ok (all.here, refl))
      (alike_if (mark == 45) (prefix_alike Negative ts)
      (alike_if (mark == 60) (prefix_alike LowByte ts)
      (alike_if (mark == 62) (prefix_alike HighByte ts)
      (alike_if (mark == 40) (parenthesised_alike ts) alike_err))))

module _ {A B : Type 0} {R : A → B → Type 0} {a : Actions A} {b : Actions B} (all : Actalike R a b) where
  unopened_alike : (column mark : ℕ) (ts : List Token) → Alike (ReadAlike R) (mark_operand a None column mark ts) (mark_operand b None column mark ts)
  unfolding mark_operand
  unopened_alike column mark ts = alike_if (mark == 46) (alike_ok (all.here, refl)) alike_err

  operand_of_alike : (f : Option (List Token → Read A)) (g : Option (List Token → Read B))
      → ((column mark : ℕ) (ts : List Token) → Alike (ReadAlike R) (mark_operand a f column mark ts) (mark_operand b g column mark ts))
      → (ts : List Token) → Alike (ReadAlike R) (operand_of a f ts) (operand_of b g ts)
  unfolding operand_of
  operand_of_alike f g opens [] = alike_err
  operand_of_alike f g opens (t ∷ ts) = goes t.kind refl
    where
      goes : (k : TokenKind) → k ≡ t.kind → Alike (ReadAlike R) (operand_of a f (t ∷ ts)) (operand_of b g (t ∷ ts))
      goes (kind.Number number) is = rw (← is, operand_of) (alike_ok (all.number number, refl))
      goes (kind.Name name) is = rw (← is, operand_of) (alike_if (is_reserved name) alike_err (alike_ok (all.name t.column name, refl)))
      goes (kind.Mark mark) is = rw (← is, operand_of) (opens t.column mark ts)

  operand_alike : (depth : ℕ) (ts : List Token) → Alike (ReadAlike R) (operand a depth ts) (operand b depth ts)
  unfolding operand
  operand_alike zero ts = operand_of_alike None None unopened_alike ts
  operand_alike (suc depth) ts =
      operand_of_alike (Some (operand a depth)) (Some (operand b depth))
      (opened_alike all (operand a depth) (operand b depth) (λ us. operand_alike depth us)) ts

  pub expression_alike : (ts : List Token) → Alike (ReadAlike R) (expression a ts) (expression b ts)
  unfolding expression
  expression_alike ts = level_alike all (operand a 64) (operand b 64) (λ us. operand_alike 64 us) 4 ts
