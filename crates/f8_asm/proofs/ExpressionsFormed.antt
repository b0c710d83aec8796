-- What is read of tokens is an expression.
use Rattle.std.proofs.Common.{◌≡◌, ℕ, zero, suc, ◌≤◌, Bool, true, false, List, [], ◌∷◌, ◌++◌, length, Option, Some}
use Rattle.std.proofs.Common.{None, Ok, refl, sym, ap, ◌∙◌, subst, arith, append_assoc, length-append, le_refl}
use Rattle.std.specs.Prelude.{◌==◌, if◌then◌else◌}
use Rattle.std.proofs.lemmas.Bool.Decides.{nat_tests}
use Rattle.asm_text.specs.declared.answers.Token.{Token}
use Rattle.asm_text.specs.declared.answers.TokenKind.{TokenKind}
use Rattle.asm_text.specs.declared.answers.TokenKind.TheVariants as kind
use Rattle.f8_asm.specs.declared.values.Operator.{Operator}
use Rattle.f8_asm.specs.declared.values.Prefix.{Prefix}
use Rattle.f8_asm.specs.declared.values.Prefix.TheVariants.{Negative, LowByte, HighByte}
use Rattle.f8_asm.specs.ExpressionForms.{prefix_mark, Forms, BeginsWithExpression}
use Rattle.f8_asm.specs.Grammar.{Actions, Read, operator_at, chain, level, parenthesis_end, parenthesis_expression}
use Rattle.f8_asm.specs.Grammar.{behind_prefix, mark_operand, operand_of, operand, expression}
use Rattle.f8_asm.specs.Words.{is_reserved}
use Rattle.f8_asm.proofs.Alike.{read-ok}
use Rattle.f8_asm.proofs.Chain.{turn, at_token}
use Rattle.f8_asm.proofs.OperatorMarks.{operator_is, Ends, ends_operand, ends_all, ends_here}

-- tokens begin with what has this strength, and go on where no operator up to it stands
pub record Formed {A : Type 0} (acts : Actions A) (strength depth : ℕ) (ts : List Token) (value : A) (rest : List Token) : Type 0 where
  pub front : List Token
  pub whole : ts ≡ front ++ rest
  pub forms : Forms acts strength depth front value
  pub ends : Ends strength rest

-- what a test leads to
by_test : {A : Type 0} (P : Type 0) (t : Bool) (r s : Read A) (x : A × List Token) → (if t then r else s) ≡ Ok x → (t ≡ true → r ≡ Ok x → P)
    → (t ≡ false → s ≡ Ok x → P) → P
by_test P true r s x h yes_case no_case = yes_case refl h
by_test P false r s x h yes_case no_case = no_case refl h

module _ {A : Type 0} (acts : Actions A) where
  -- the same reading, written otherwise
  formed_as : {strength depth : ℕ} {ts rest us : List Token} {x v : A} → Formed acts strength depth ts x us
      → ◌≡◌ {A = Read A} (Ok (x, us)) (Ok (v, rest)) → Formed acts strength depth ts v rest
  formed_as {strength} {depth} {ts} {rest} {us} {x} {v} formed h =
      let same : ◌≡◌ {A = A × List Token} (x, us) (v, rest) = cc h in
      subst (λ (r : A × List Token). Formed acts strength depth ts r.0 r.1) same formed

module _ {A : Type 0} (acts : Actions A) (depth k : ℕ) (g : List Token → Read A)
    (tight : (ts : List Token) (v : A) (rest : List Token) → g ts ≡ Ok (v, rest) → Formed acts k depth ts v rest) where
  -- operators behind what is formed
  abbrev ChainForms : ℕ → Type 0
  ChainForms n =
      (before : List Token) (left : A) (ts : List Token) (v : A) (rest : List Token) → length ts ≤ n → Ends k ts → Forms acts (suc k) depth before left
      → chain acts (suc k) g n left ts ≡ Ok (v, rest) → Formed acts (suc k) depth (before ++ ts) v rest

  turn_formed : (n : ℕ) → ChainForms n → (before : List Token) (left : A) (t : Token) (ts : List Token) (v : A) (rest : List Token) → length ts ≤ n
      → Ends k (t ∷ ts) → Forms acts (suc k) depth before left → (o : Option Operator) → o ≡ operator_at (suc k) t.kind
      → turn acts (suc k) g n left t ts o ≡ Ok (v, rest) → Formed acts (suc k) depth (before ++ t ∷ ts) v rest
  turn_formed n further before left t ts v rest room ends forms None is h =
      formed_as acts (record { front = before; whole = refl; forms = forms; ends = ends_here k t ts ends is }) h
  turn_formed n further before left t ts v rest room ends forms (Some operator) is h =
      read-ok (Formed acts (suc k) depth (before ++ t ∷ ts) v rest) (g ts) _ (v, rest) h (λ r at_r h.
      let right = tight ts r.0 r.1 at_r in
      let found = operator_is (suc k) t.kind operator (sym is) in
      let size = ap length right.whole in
      let parts = length-append right.front r.1 in
      let whole = further (before ++ t ∷ right.front) (acts.between operator left r.0) r.1 v rest (omega arith) right.ends
      (Forms.operator_value t operator found.strength_is forms found.kind_is right.forms) h in
      let same : (before ++ t ∷ right.front) ++ r.1 ≡ before ++ t ∷ ts =
      append_assoc before (t ∷ right.front) r.1 ∙ ap (λ us. before ++ t ∷ us) (sym right.whole) in
      subst (λ us. Formed acts (suc k) depth us v rest) same whole)

  chain_formed : (n : ℕ) → ChainForms n
  unfolding chain
  chain_formed zero before left [] v rest room ends forms h =
      formed_as acts (record { front = before; whole = refl; forms = forms; ends = tt }) h
  chain_formed zero before left (t ∷ ts) v rest room ends forms h = absurd (omega arith)
  chain_formed (suc n) before left [] v rest room ends forms h =
      formed_as acts (record { front = before; whole = refl; forms = forms; ends = tt }) h
  chain_formed (suc n) before left (t ∷ ts) v rest room ends forms h =
      turn_formed n (chain_formed n) before left t ts v rest (omega arith) ends forms (operator_at (suc k) t.kind) refl
      (sym (at_token acts (suc k) g (operator_at (suc k) t.kind) n left t ts refl) ∙ h)

-- what is closed
record Closed {A : Type 0} (x : A) (us : List Token) (v : A) (rest : List Token) : Type 0 where
  pub mark : Token
  pub whole : us ≡ mark ∷ rest
  pub mark_is : mark.kind ≡ kind.Mark 41
  pub same : x ≡ v

closed_is : {A : Type 0} (x : A) (us : List Token) (v : A) (rest : List Token) → parenthesis_end x us ≡ Ok (v, rest) → Closed x us v rest
closed_is x [] v rest h = cc h
closed_is {A} x (u ∷ us) v rest h = goes u.kind refl
  where
    closes : (mark : ℕ) → u.kind ≡ kind.Mark mark → mark ≡ 41 → ◌≡◌ {A = Read A} (Ok (x, us)) (Ok (v, rest)) → Closed x (u ∷ us) v rest
    closes mark is closing h =
        let same : ◌≡◌ {A = A × List Token} (x, us) (v, rest) = cc h in
        record {
          mark = u;
          whole = ap (λ (r : A × List Token). u ∷ r.1) same;
          mark_is = is ∙ ap kind.Mark closing;
          same = ap (λ (r : A × List Token). r.0) same;
        }

    goes : (k : TokenKind) → u.kind ≡ k → Closed x (u ∷ us) v rest
    goes (kind.Name name) is = cc (rw is at h)
    goes (kind.Number number) is = cc (rw is at h)
    goes (kind.Mark mark) is =
        by_test (Closed x (u ∷ us) v rest) (mark == 41) _ _ (v, rest) (rw is at h)
        (λ closing h. closes mark is (grind (arith, nat_tests)) h)
        (λ other h. cc h)

module _ {A : Type 0} (acts : Actions A) (depth : ℕ) (f : List Token → Read A)
    (each : (ts : List Token) (v : A) (rest : List Token) → f ts ≡ Ok (v, rest) → Formed acts 0 depth ts v rest) where
  level_formed : (k : ℕ) (ts : List Token) (v : A) (rest : List Token) → level acts f k ts ≡ Ok (v, rest) → Formed acts k depth ts v rest
  unfolding level
  level_formed zero ts v rest h = each ts v rest h
  level_formed (suc k) ts v rest h =
      read-ok (Formed acts (suc k) depth ts v rest) (level acts f k ts) _ (v, rest) h (λ r at_r h.
      let first = level_formed k ts r.0 r.1 at_r in
      let whole = chain_formed acts depth k (level acts f k) (λ us w after e. level_formed k us w after e) (length r.1) first.front r.0 r.1 v rest
      (le_refl (length r.1)) first.ends (Forms.tighter first.forms) h in
      subst (λ us. Formed acts (suc k) depth us v rest) (sym first.whole) whole)

  behind_formed : (prefix : Prefix) (t : Token) (ts : List Token) (v : A) (rest : List Token) → t.kind ≡ kind.Mark (prefix_mark prefix)
      → behind_prefix acts prefix f ts ≡ Ok (v, rest) → Formed acts 0 (suc depth) (t ∷ ts) v rest
  behind_formed prefix t ts v rest is h =
      read-ok (Formed acts 0 (suc depth) (t ∷ ts) v rest) (f ts) _ (v, rest) h (λ r at_r h.
      let inner = each ts r.0 r.1 at_r in
      formed_as acts (record {
        front = t ∷ inner.front;
        whole = ap (λ us. t ∷ us) inner.whole;
        forms = Forms.prefix_value prefix is inner.forms;
        ends = inner.ends;
      }) h)

  parenthesised_formed : (t : Token) (ts : List Token) (v : A) (rest : List Token) → t.kind ≡ kind.Mark 40
      → parenthesis_expression acts f ts ≡ Ok (v, rest) → Formed acts 0 (suc depth) (t ∷ ts) v rest
  unfolding parenthesis_expression
  parenthesised_formed t ts v rest is h =
      read-ok (Formed acts 0 (suc depth) (t ∷ ts) v rest) (level acts f 4 ts) _ (v, rest) h (λ r at_r h.
      let inner = level_formed 4 ts r.0 r.1 at_r in
      let behind = closed_is r.0 r.1 v rest h in
      let value = subst (λ w. Forms acts 4 depth inner.front w) behind.same inner.forms in
      let read : ts ≡ inner.front ++ behind.mark ∷ rest = inner.whole ∙ ap (λ us. inner.front ++ us) behind.whole in
      let parted = append_assoc inner.front (behind.mark ∷ []) rest in
      record {
        front = t ∷ (inner.front ++ behind.mark ∷ []);
        whole = ap (λ us. t ∷ us) (read ∙ sym parted);
        forms = Forms.parenthesis_expression t behind.mark is value behind.mark_is;
        ends = ends_operand rest;
      })

  opened_formed : (t : Token) (mark : ℕ) (ts : List Token) (v : A) (rest : List Token) → t.kind ≡ kind.Mark mark
      → mark_operand acts (Some f) t.column mark ts ≡ Ok (v, rest) → Formed acts 0 (suc depth) (t ∷ ts) v rest
  unfolding mark_operand
  opened_formed t mark ts v rest is h =
      let P = Formed acts 0 (suc depth) (t ∷ ts) v rest in
      by_test P (mark == 46) _ _ (v, rest) h
      (λ dot h. formed_as acts (record {
        front = t ∷ [];
        whole = refl;
        forms = Forms.here (is ∙ ap kind.Mark (grind (arith, nat_tests)));
        ends = ends_operand ts;
      }) h)
      (λ other h. by_test P (mark == 45) _ _ (v, rest) h
      (λ minus h. behind_formed Negative t ts v rest (is ∙ ap kind.Mark (grind (arith, nat_tests))) h)
      (λ other h. by_test P (mark == 60) _ _ (v, rest) h
      (λ low h. behind_formed LowByte t ts v rest (is ∙ ap kind.Mark (grind (arith, nat_tests))) h)
      (λ other h. by_test P (mark == 62) _ _ (v, rest) h
      (λ high h. behind_formed HighByte t ts v rest (is ∙ ap kind.Mark (grind (arith, nat_tests))) h)
      (λ other h. by_test P (mark == 40) _ _ (v, rest) h
      (λ open_mark h. parenthesised_formed t ts v rest (is ∙ ap kind.Mark (grind (arith, nat_tests))) h)
      (λ other h. cc h)))))

unopened_formed : {A : Type 0} (acts : Actions A) (t : Token) (mark : ℕ) (ts : List Token) (v : A) (rest : List Token) → t.kind ≡ kind.Mark mark
    → mark_operand acts None t.column mark ts ≡ Ok (v, rest) → Formed acts 0 0 (t ∷ ts) v rest
unfolding mark_operand
unopened_formed acts t mark ts v rest is h =
    by_test (Formed acts 0 0 (t ∷ ts) v rest) (mark == 46) _ _ (v, rest) h
    (λ dot h. formed_as acts (record {
      front = t ∷ [];
      whole = refl;
      forms = Forms.here (is ∙ ap kind.Mark (grind (arith, nat_tests)));
      ends = ends_operand ts;
    }) h)
    (λ other h. cc h)

module _ {A : Type 0} (acts : Actions A) (depth : ℕ) (inner : Option (List Token → Read A)) where
  operand_of_formed : ((t : Token) (mark : ℕ) (ts : List Token) (v : A) (rest : List Token) → t.kind ≡ kind.Mark mark
      → mark_operand acts inner t.column mark ts ≡ Ok (v, rest) → Formed acts 0 depth (t ∷ ts) v rest)
      → (ts : List Token) (v : A) (rest : List Token) → operand_of acts inner ts ≡ Ok (v, rest) → Formed acts 0 depth ts v rest
  unfolding operand_of
  operand_of_formed opens [] v rest h = cc h
  operand_of_formed opens (t ∷ ts) v rest h = goes t.kind refl
    where
      named : (name_bytes : List ℕ) → t.kind ≡ kind.Name name_bytes → is_reserved name_bytes ≡ false →
          Formed acts 0 depth (t ∷ ts) (acts.name t.column name_bytes) ts
      named name_bytes is free = record { front = t ∷ []; whole = refl; forms = Forms.name is free; ends = ends_operand ts }

      goes : (k : TokenKind) → t.kind ≡ k → Formed acts 0 depth (t ∷ ts) v rest
      goes (kind.Number n) is =
          formed_as acts (record { front = t ∷ []; whole = refl; forms = Forms.number is; ends = ends_operand ts }) (rw (is, operand_of) at h)
      goes (kind.Name name_bytes) is =
          by_test (Formed acts 0 depth (t ∷ ts) v rest) (is_reserved name_bytes) _ _ (v, rest) (rw (is, operand_of) at h)
          (λ reserved h. cc h)
          (λ free h. formed_as acts (named name_bytes is free) h)
      goes (kind.Mark mark) is = opens t mark ts v rest is (rw (is, operand_of) at h)

operand_formed : {A : Type 0} (acts : Actions A) (depth : ℕ) (ts : List Token) (v : A) (rest : List Token) → operand acts depth ts ≡ Ok (v, rest)
    → Formed acts 0 depth ts v rest
unfolding operand
operand_formed acts zero ts v rest h = operand_of_formed acts 0 None (unopened_formed acts) ts v rest h
operand_formed acts (suc depth) ts v rest h =
    operand_of_formed acts (suc depth) (Some (operand acts depth))
    (opened_formed acts depth (operand acts depth) (λ us w after e. operand_formed acts depth us w after e)) ts v rest h

-- what is read is the expression that tokens begin with
pub expression_formed : {A : Type 0} (acts : Actions A) (ts : List Token) (v : A) (rest : List Token) → expression acts ts ≡ Ok (v, rest)
    → BeginsWithExpression acts ts v rest
unfolding expression
expression_formed acts ts v rest h =
    let formed = level_formed acts 64 (operand acts 64) (operand_formed acts 64) 4 ts v rest h in
    record { front = formed.front; whole = formed.whole; forms = formed.forms; ends = ends_all rest formed.ends }
