-- The value of an expression is that of its formula.
use Rattle.std.proofs.Common.{◌≡◌, ◌-◌, List, [], ◌∷◌, ◌++◌, length, take, Some, Bool, Ok, refl, sym, ◌∙◌, ap}
use Rattle.std.proofs.Common.{append_assoc, append-nil, length-append, arith}
use Rattle.std.specs.Prelude.{slice_get}
use Rattle.asm_text.specs.declared.answers.Token.{Token}
use Rattle.f8_asm.specs.declared.formulas.Step.{Step}
use Rattle.f8_asm.specs.declared.formulas.Step.TheVariants.{Before, Between}
use Rattle.f8_asm.specs.declared.operands.Statement.{Statement}
use Rattle.f8_asm.specs.declared.values.Operator.{Operator}
use Rattle.f8_asm.specs.declared.values.Prefix.{Prefix}
use Rattle.f8_asm.specs.Formulas.{formulas, last_on, but_last, stack_after, stack_behind, formula_value}
use Rattle.f8_asm.specs.Grammar.{Actions}
use Rattle.f8_asm.specs.Statements.{statement, statement_valued}
use Rattle.f8_asm.proofs.Alike.{Alike, alike_value}
use Rattle.f8_asm.proofs.ExpressionsAlike.{Actalike}
use Rattle.f8_asm.proofs.StatementsAlike.{StatementAlike, statement_alike, statement_value_of}

-- ---- the end of a stack

last_of : {A : Type 0} (stack : List A) (x : A) → slice_get (stack ++ x ∷ []) (length stack) ≡ Some x
last_of [] x = refl
last_of (y ∷ ys) x = last_of ys x

rest_of : {A : Type 0} (stack : List A) (x : A) → take (length stack) (stack ++ x ∷ []) ≡ stack
rest_of [] x = refl
rest_of (y ∷ ys) x = ap (λ r. y ∷ r) (rest_of ys x)

one_less : {A : Type 0} (stack : List A) (x : A) → length (stack ++ x ∷ []) - 1 ≡ length stack
one_less stack x = let more = length-append stack (x ∷ []) in omega (arith, more)

last_is : {A : Type 0} (stack : List A) (x : A) → last_on (stack ++ x ∷ []) ≡ Some x
last_is stack x = rw (one_less stack x) (last_of stack x)

rest_is : {A : Type 0} (stack : List A) (x : A) → but_last (stack ++ x ∷ []) ≡ stack
rest_is stack x = rw (one_less stack x) (rest_of stack x)

module _ {A : Type 0} (acts : Actions A) where
  after_before : (prefix : Prefix) (stack : List A) (x : A)
      → stack_after acts (Before prefix) (stack ++ x ∷ []) ≡ stack ++ acts.before prefix x ∷ []
  unfolding stack_after
  after_before prefix stack x = rw (last_is stack x, rest_is stack x) refl

  after_between : (operator : Operator) (stack : List A) (x y : A)
      → stack_after acts (Between operator) ((stack ++ x ∷ []) ++ y ∷ []) ≡ stack ++ acts.between operator x y ∷ []
  unfolding stack_after
  after_between operator stack x y = rw (last_is (stack ++ x ∷ []) y, rest_is (stack ++ x ∷ []) y, last_is stack x, rest_is stack x) refl

  -- steps put this value on a stack, whatever is there and whatever follows
  pub record Puts (x : A) (ss : List Step) : Type 0 where
    pub is : (rest : List Step) (stack : List A) → stack_behind acts (ss ++ rest) stack ≡ stack_behind acts rest (stack ++ x ∷ [])

  before_puts : (prefix : Prefix) (x : A) (ss : List Step) → Puts x ss → Puts (acts.before prefix x) (ss ++ Before prefix ∷ [])
  unfolding stack_behind
  before_puts prefix x ss puts = record {
    is = λ rest stack.
        rw (append_assoc ss (Before prefix ∷ []) rest, puts.is (Before prefix ∷ rest) stack, after_before prefix stack x) refl;
  }

  between_puts : (operator : Operator) (x u : A) (ss ts : List Step) → Puts x ss → Puts u ts
      → Puts (acts.between operator x u) (ss ++ ts ++ Between operator ∷ [])
  unfolding stack_behind
  between_puts operator x u ss ts puts and = record {
    is = λ rest stack.
        let parts : (ss ++ ts ++ Between operator ∷ []) ++ rest ≡ ss ++ (ts ++ Between operator ∷ rest) = simp append_assoc in
        rw (
          parts,
          puts.is (ts ++ Between operator ∷ rest) stack,
          and.is (Between operator ∷ rest) (stack ++ x ∷ []),
          after_between operator stack x u,
        ) refl;
  }

  formulas_put : Actalike Puts acts formulas
  unfolding stack_behind stack_after
  formulas_put = record {
    number = λ n. record { is = λ rest stack. refl };
    name = λ column name. record { is = λ rest stack. refl };
    here = record { is = λ rest stack. refl };
    before = before_puts;
    between = between_puts;
  }

  value_put : (empty x : A) (ss : List Step) → Puts x ss → x ≡ formula_value empty acts ss
  unfolding formula_value stack_behind
  value_put empty x ss puts = rw (sym (ap (λ r. stack_behind acts r []) (append-nil ss)) ∙ puts.is [] []) refl

-- a statement has its values as its formulas have them
pub statement_with_values : {A : Type 0} (empty : A) (acts : Actions A) (labelled : Bool) (ts : List Token) (st : Statement (List Step))
    → statement formulas labelled ts ≡ Ok st → statement acts labelled ts ≡ Ok (statement_valued (formula_value empty acts) st)
statement_with_values empty acts labelled ts st read =
    alike_value (statement_valued (formula_value empty acts))
    (λ x y same. statement_value_of (formula_value empty acts) (value_put acts empty) same)
    (statement_alike (formulas_put acts) labelled ts) st read

-- tokens make a statement whatever values names have, and else they fail alike
pub statement_read : {A : Type 0} (acts : Actions A) (labelled : Bool) (ts : List Token)
    → Alike (StatementAlike (Puts acts)) (statement acts labelled ts) (statement formulas labelled ts)
statement_read acts labelled ts = statement_alike (formulas_put acts) labelled ts
