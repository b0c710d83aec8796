-- The stack that steps lead to: where the loop over them goes on and ends.
use Rattle.std.proofs.Common.{◌≡◌, ℕ, ◌+◌, ◌<◌, ◌≤◌, suc, List, [], ◌∷◌, length, get_or, drop, refl, sym, ap, add-one}
use Rattle.std.proofs.Math.Seq.{drop-cons}
use Rattle.std.proofs.lemmas.List.{drop_all}
use Rattle.f8_asm.specs.declared.formulas.Step.{Step}
use Rattle.f8_asm.specs.Formulas.{last_on, top_of, stack_after, stack_behind, formula_value}
use Rattle.f8_asm.specs.Grammar.{Actions}

-- the last value on the stack that steps lead to is theirs
pub value_on : {A : Type 0} (empty : A) (acts : Actions A) (ss : List Step) (stack : List A) → stack ≡ stack_behind acts ss []
    → top_of empty (last_on stack) ≡ formula_value empty acts ss
unfolding formula_value
value_on empty acts ss stack is = rw is refl

-- the steps that follow lead to this stack
pub record StackOn {A : Type 0} (acts : Actions A) (rest : List Step) (stack whole : List A) : Type 0 where
  pub is : stack_behind acts rest stack ≡ whole

module _ {A : Type 0} (acts : Actions A) {stack whole : List A} where
  pub stack_all : (ss : List Step) (i : ℕ) → StackOn acts (drop i ss) stack whole → length ss ≤ i → stack ≡ whole
  unfolding stack_behind
  stack_all ss i on past = rw (drop_all i ss past) at on.is

  pub stack_more : (ss : List Step) (i : ℕ) (s : Step) → StackOn acts (drop i ss) stack whole → i < length ss → s ≡ get_or ss i s
      → StackOn acts (drop (i + 1) ss) (stack_after acts s stack) whole
  unfolding stack_behind
  stack_more ss i s on within is =
      let next : drop i ss ≡ s ∷ drop (i + 1) ss = rw (add-one i, drop-cons ss i s) (ap (λ q. q ∷ drop (suc i) ss) (sym is)) in
      record { is = rw next at on.is }
