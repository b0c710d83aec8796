-- What an EQU of a module comes to, beside its value in the one source.
use Rattle.std.proofs.Common.{◌≡◌, ℕ, ◌+◌, ℤ, Bool, List, [], Some, Ok, refl}
use Rattle.asm_text.specs.declared.answers.Token.{Token}
use Rattle.f8_asm.specs.Formulas.{formulas, formula_value}
use Rattle.f8_asm.specs.Judging.{operand_value}
use Rattle.f8_asm.specs.Names.{value_of}
use Rattle.f8_asm.specs.Statements.{statement, operand_valued}
use Rattle.f8_asm.specs.declared.formulas.Step.{Step}
use Rattle.f8_asm.specs.declared.operands.Operand.{Operand}
use Rattle.f8_asm.specs.declared.operands.Statement.{Statement}
use Rattle.f8_asm.specs.declared.operands.Statement.TheVariants.{One}
use Rattle.f8_asm.specs.declared.values.Outcome.{Outcome}
use Rattle.f8_asm.specs.declared.values.Outcome.TheVariants as outcome
use Rattle.f8_asm.specs.declared.words.Single.{Single}
use Rattle.f8_asm.specs.declared.words.Single.TheVariants as single
use Rattle.f8_asm.proofs.Alike.{alike_both}
use Rattle.f8_asm.proofs.ExpressionsAlike.{Actalike}
use Rattle.f8_asm.proofs.FormulaValues.{statement_with_values}
use Rattle.f8_asm.proofs.StatementsAlike.{StatementAlike, one_alike, statement_alike}
use Rattle.f8_link.specs.declared.values.Found.{Found}
use Rattle.f8_link.specs.declared.values.Found.TheVariants as found
use Rattle.f8_link.specs.declared.values.Named.{Named}
use Rattle.f8_link.specs.declared.values.Value.TheVariants.{Constant, Placed}
use Rattle.f8_link.specs.Evaluation.{placed_values, formula_found}
use Rattle.f8_link.specs.Linking.{named_value}
use Rattle.f8_link.specs.OneSource.{renamed_values}
use Rattle.f8_link.specs.Pieces.{constant_in, constant_of}

-- the module's names so far have their values among those of the one source
pub record OwnNamesGo (first : ℕ) (rename : List ℕ → List ℕ) (names : List (List ℕ × Named)) (others : List (List ℕ × ℤ)) : Type 0 where
  pub is : (x : List ℕ) (v : Named) → value_of names x ≡ Some v → value_of others (rename x) ≡ Some (named_value first v)

-- a constant that the module's EQU gives is what it gives in the one source
pub record EquGoes (first : ℕ) (rename : List ℕ → List ℕ) : Type 0 where
  pub is : (names : List (List ℕ × Named)) (offset : ℕ) (others : List (List ℕ × ℤ)) → OwnNamesGo first rename names others
      → (labelled : Bool) (ts : List Token) (o : Operand (List Step)) (v : ℤ) → statement formulas labelled ts ≡ Ok (One single.Equ o)
      → constant_of (operand_valued (formula_found names [] offset) o) ≡ Ok v
      → operand_value (operand_valued (formula_value outcome.OutOfRange (renamed_values rename others (first + offset))) o) ≡ Ok v

-- values of one operand that go together
abbrev OneValue : (Found → Outcome → Type 0) → Operand Found → Statement Outcome → Type 0
OneValue R o (One what p) = R o.value p.value
OneValue R o other = ⊥

one_values : {R : Found → Outcome → Type 0} {what : Single} {o : Operand Found} {other : Statement Outcome} → StatementAlike R (One what o) other
    → OneValue R o other
one_values (one_alike what same) = same.1

constant_found : (column : ℕ) (x : Found) (v : ℤ) → constant_in column x ≡ Ok v → x ≡ found.Value (Constant v)
constant_found column (found.Value (Constant w)) v h = cc h
constant_found column (found.Value (Placed base k)) v h = cc h
constant_found column (found.Half half base k) v h = cc h
constant_found column found.OutOfRange v h = cc h
constant_found column found.Shapeless v h = cc h
constant_found column (found.Undefined at) v h = cc h

-- by any relation of values under which a constant goes with itself
pub equ_by : (first : ℕ) (rename : List ℕ → List ℕ) (R : Found → Outcome → Type 0)
    → ((v : ℤ) (o : Outcome) → R (found.Value (Constant v)) o → o ≡ outcome.Value v)
    → ((names : List (List ℕ × Named)) (offset : ℕ) (others : List (List ℕ × ℤ)) → OwnNamesGo first rename names others
    → Actalike R (placed_values names [] offset) (renamed_values rename others (first + offset)))
    → EquGoes first rename
equ_by first rename R constant goes = record {
  is = λ names offset others so labelled ts o v read told.
      let values = renamed_values rename others (first + offset) in
      let at_module = statement_with_values found.OutOfRange (placed_values names [] offset) labelled ts (One single.Equ o) read in
      let at_source = statement_with_values outcome.OutOfRange values labelled ts (One single.Equ o) read in
      let p : Operand Found = operand_valued (formula_found names [] offset) o in
      let q : Operand Outcome = operand_valued (formula_value outcome.OutOfRange values) o in
      let both : StatementAlike R (One single.Equ p) (One single.Equ q) = alike_both (statement_alike (goes names offset others so) labelled ts)
      (One single.Equ p) (One single.Equ q) at_module at_source in
      let together : R p.value q.value = one_values both in
      let known : p.value ≡ found.Value (Constant v) = constant_found p.column p.value v told in
      let there : q.value ≡ outcome.Value v = constant v q.value (rw known at together) in
      rw there refl;
}
