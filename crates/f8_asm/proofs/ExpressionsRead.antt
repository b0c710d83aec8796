-- Expressions are read whole.
use Rattle.std.proofs.Common.{◌≡◌, ℕ, zero, suc, ◌<◌, false, List, [], ◌∷◌, ◌++◌, length, Ok, refl, sym, ◌∙◌, arith, append_assoc}
use Rattle.std.proofs.Common.{length-append, le_refl}
use Rattle.asm_text.specs.declared.answers.Token.{Token}
use Rattle.asm_text.specs.declared.answers.TokenKind.TheVariants as kind
use Rattle.f8_asm.specs.declared.values.Operator.{Operator}
use Rattle.f8_asm.specs.declared.values.Prefix.{Prefix}
use Rattle.f8_asm.specs.declared.values.Prefix.TheVariants.{Negative, LowByte, HighByte}
use Rattle.f8_asm.specs.ExpressionForms.{operator_mark, strength_of, prefix_mark, Forms, BeginsWithExpression}
use Rattle.f8_asm.specs.Grammar.{Actions, Read, level, parenthesis_expression, behind_prefix, mark_operand, operand_of, operand, deeper}
use Rattle.f8_asm.specs.Grammar.{expression}
use Rattle.f8_asm.specs.Words.{is_reserved}
use Rattle.f8_asm.proofs.Chain.{ChainOn, chain_goes, chain_stops, chain_ends}
use Rattle.f8_asm.proofs.Depth.{operand_mark}
use Rattle.f8_asm.proofs.OperatorMarks.{is_operator, Ends, all_ends, ends_below, ends_before, ends_closed, none_here}

module _ {A : Type 0} (acts : Actions A) where
  -- What forms an operand is read whole. What forms an expression of a strength is read up to an operator of that strength, with which the
  -- reading goes on.
  abbrev IsRead : ℕ → ℕ → List Token → A → Type 0
  IsRead zero depth front x = (rest : List Token) → operand acts depth (front ++ rest) ≡ Ok (x, rest)
  IsRead (suc k) depth front x =
      (rest : List Token) → Ends k rest
      → ChainOn acts (suc k) (level acts (operand acts depth) k) x rest (level acts (operand acts depth) (suc k) (front ++ rest))

  -- it is read whole where no such operator stands behind it
  chain_done : (k depth : ℕ) (x : A) (rest : List Token) (whole : Read A)
      → ChainOn acts (suc k) (level acts (operand acts depth) k) x rest whole → Ends (suc k) rest → whole ≡ Ok (x, rest)
  chain_done k depth x [] whole on ends = chain_ends acts (suc k) (level acts (operand acts depth) k) on
  chain_done k depth x (t ∷ ts) whole on ends = chain_stops acts (suc k) (level acts (operand acts depth) k) on (none_here (suc k) t ts ends)

  read_whole : (strength depth : ℕ) (front : List Token) (x : A) → IsRead strength depth front x → (rest : List Token) → Ends strength rest
      → level acts (operand acts depth) strength (front ++ rest) ≡ Ok (x, rest)
  unfolding level
  read_whole zero depth front x read rest ends = read rest
  read_whole (suc k) depth front x read rest ends = chain_done k depth x rest _ (read rest (ends_below k rest ends)) ends

  -- ---- operands

  number_read : (depth n : ℕ) (t : Token) (rest : List Token) → t.kind ≡ kind.Number n → operand acts depth (t ∷ rest) ≡ Ok (acts.number n, rest)
  unfolding operand operand_of
  number_read zero n t rest is = rw (is, operand, operand_of) refl
  number_read (suc depth) n t rest is = rw (is, operand, operand_of) refl

  name_read : (depth : ℕ) (name : List ℕ) (t : Token) (rest : List Token) → t.kind ≡ kind.Name name → is_reserved name ≡ false
      → operand acts depth (t ∷ rest) ≡ Ok (acts.name t.column name, rest)
  unfolding operand operand_of
  name_read zero name t rest is free = rw (is, operand, operand_of, free) refl
  name_read (suc depth) name t rest is free = rw (is, operand, operand_of, free) refl

  here_opened : (depth column : ℕ) (rest : List Token) → mark_operand acts (deeper acts depth) column 46 rest ≡ Ok (acts.here, rest)
  unfolding mark_operand deeper
  here_opened zero column rest = refl
  here_opened (suc depth) column rest = refl

  here_read : (depth : ℕ) (t : Token) (rest : List Token) → t.kind ≡ kind.Mark 46 → operand acts depth (t ∷ rest) ≡ Ok (acts.here, rest)
  here_read depth t rest is = sym (operand_mark acts depth 46 t rest (sym is)) ∙ here_opened depth t.column rest

  prefix_opened : (depth column : ℕ) (prefix : Prefix) (ts : List Token)
      → mark_operand acts (deeper acts (suc depth)) column (prefix_mark prefix) ts ≡ behind_prefix acts prefix (operand acts depth) ts
  unfolding mark_operand deeper
  prefix_opened depth column Negative ts = refl
  prefix_opened depth column LowByte ts = refl
  prefix_opened depth column HighByte ts = refl

  prefix_read : (depth : ℕ) (t : Token) (ts : List Token) (x : A) (prefix : Prefix) → t.kind ≡ kind.Mark (prefix_mark prefix)
      → IsRead 0 depth ts x → IsRead 0 (suc depth) (t ∷ ts) (acts.before prefix x)
  prefix_read depth t ts x prefix is read rest =
      sym (operand_mark acts (suc depth) (prefix_mark prefix) t (ts ++ rest) (sym is))
      ∙ prefix_opened depth t.column prefix (ts ++ rest)
      ∙ rw (read rest) refl

  parenthesis_opened : (depth column : ℕ) (ts : List Token)
      → mark_operand acts (deeper acts (suc depth)) column 40 ts ≡ parenthesis_expression acts (operand acts depth) ts
  unfolding mark_operand deeper
  parenthesis_opened depth column ts = refl

  closed_read : (depth : ℕ) (u : Token) (ts rest : List Token) (x : A) → u.kind ≡ kind.Mark 41
      → level acts (operand acts depth) 4 (ts ++ u ∷ rest) ≡ Ok (x, u ∷ rest)
      → parenthesis_expression acts (operand acts depth) (ts ++ u ∷ rest) ≡ Ok (x, rest)
  unfolding parenthesis_expression
  closed_read depth u ts rest x is read = rw (read, is) refl

  parenthesised_read : (depth : ℕ) (t u : Token) (ts : List Token) (x : A) → t.kind ≡ kind.Mark 40 → u.kind ≡ kind.Mark 41
      → IsRead 4 depth ts x → IsRead 0 (suc depth) (t ∷ (ts ++ u ∷ [])) x
  parenthesised_read depth t u ts x is closing read rest =
      let parted : (ts ++ u ∷ []) ++ rest ≡ ts ++ u ∷ rest = append_assoc ts (u ∷ []) rest in
      rw parted
      (sym (operand_mark acts (suc depth) 40 t (ts ++ u ∷ rest) (sym is))
      ∙ parenthesis_opened depth t.column (ts ++ u ∷ rest)
      ∙ closed_read depth u ts rest x closing (read_whole 4 depth ts x read (u ∷ rest) (ends_closed 4 u rest closing)))

  -- ---- operators

  chain_begins : (k depth : ℕ) (x : A) (ts rest : List Token) → level acts (operand acts depth) k ts ≡ Ok (x, rest)
      → ChainOn acts (suc k) (level acts (operand acts depth) k) x rest (level acts (operand acts depth) (suc k) ts)
  unfolding level
  chain_begins k depth x ts rest read = record { most = length rest; room = le_refl (length rest); is = rw (read, level) refl }

  tighter_read : (k depth : ℕ) (ts : List Token) (x : A) → IsRead k depth ts x → IsRead (suc k) depth ts x
  tighter_read k depth ts x read rest ends = chain_begins k depth x (ts ++ rest) rest (read_whole k depth ts x read rest ends)

  -- an expression has a token
  some_token : {strength depth : ℕ} {ts : List Token} {x : A} → Forms acts strength depth ts x → 0 < length ts
  some_token (Forms.number is) = omega arith
  some_token (Forms.name is free) = omega arith
  some_token (Forms.here is) = omega arith
  some_token (Forms.prefix_value prefix is forms) = omega arith
  some_token (Forms.parenthesis_expression t u is forms closing) = omega arith
  some_token (Forms.tighter forms) = some_token forms
  some_token (Forms.operator_value {ts = ts} {us = us} t operator strong left is right) = let parts = length-append ts (t ∷ us) in omega arith

  joined_read : (k depth : ℕ) (t : Token) (ts us : List Token) (x y : A) (operator : Operator) → strength_of operator ≡ suc k
      → t.kind ≡ kind.Mark (operator_mark operator) → 0 < length us → IsRead (suc k) depth ts x → IsRead k depth us y
      → IsRead (suc k) depth (ts ++ t ∷ us) (acts.between operator x y)
  joined_read k depth t ts us x y operator strong is some left right rest ends =
      let parted : (ts ++ t ∷ us) ++ rest ≡ ts ++ t ∷ (us ++ rest) = append_assoc ts (t ∷ us) rest in
      let size = length-append us rest in
      rw parted
      (chain_goes acts (suc k) (level acts (operand acts depth) k) (left (t ∷ (us ++ rest)) (ends_before k t (us ++ rest) operator strong is))
      operator y rest (sym (is_operator (suc k) t.kind operator is strong)) (sym (read_whole k depth us y right rest ends)) (omega arith))

  -- what is formed is read
  formed_read : {strength depth : ℕ} {ts : List Token} {x : A} → Forms acts strength depth ts x → IsRead strength depth ts x
  formed_read (Forms.number {depth} {n} {t} is) = λ rest. number_read depth n t rest is
  formed_read (Forms.name {depth} {name} {t} is free) = λ rest. name_read depth name t rest is free
  formed_read (Forms.here {depth} {t} is) = λ rest. here_read depth t rest is
  formed_read (Forms.prefix_value {depth} {t} {ts} {x} prefix is forms) = prefix_read depth t ts x prefix is (formed_read forms)
  formed_read (Forms.parenthesis_expression {depth} {ts} {x} t u is forms closing) = parenthesised_read depth t u ts x is closing (formed_read forms)
  formed_read (Forms.tighter {strength} {depth} {ts} {x} forms) = tighter_read strength depth ts x (formed_read forms)
  formed_read (Forms.operator_value {strength} {depth} {ts} {us} {x} {y} t operator strong left is right) =
      joined_read strength depth t ts us x y operator strong is (some_token right) (formed_read left) (formed_read right)

  -- the expression that tokens begin with is read
  pub expression_read : (ts : List Token) (v : A) (rest : List Token) → BeginsWithExpression acts ts v rest → expression acts ts ≡ Ok (v, rest)
  unfolding expression
  expression_read ts v rest begins =
      rw begins.whole (read_whole 4 64 begins.front v (formed_read begins.forms) rest (all_ends rest begins.ends))
