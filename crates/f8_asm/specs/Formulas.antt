-- Expressions as the steps to their values: each operand stands before what is done with it.
use Rattle.std.specs.Prelude.{◌-◌, List, [], ◌∷◌, ◌++◌, length, take, slice_get, Option, Some, None}
use Rattle.f8_asm.specs.declared.formulas.Step.{Step}
use Rattle.f8_asm.specs.declared.formulas.Step.TheVariants.{Number, Name, Here, Before, Between}
use Rattle.f8_asm.specs.Grammar.{Actions}

-- the parts of an expression stand for the steps to their values
abbrev pub formulas : Actions (List Step)
formulas = record {
  number = λ n. Number n ∷ [];
  name = λ column name. Name column name ∷ [];
  here = Here ∷ [];
  before = λ prefix x. x ++ Before prefix ∷ [];
  between = λ operator x y. x ++ y ++ Between operator ∷ [];
}

-- ---- the value of steps, whatever the parts of an expression stand for

-- the last value on a stack, and those before it
abbrev pub last_on : {A : Type 0} → List A → Option A
last_on stack = slice_get stack (length stack - 1)

abbrev pub but_last : {A : Type 0} → List A → List A
but_last stack = take (length stack - 1) stack

-- a stack with one value in place of its last
abbrev pub last_changed : {A : Type 0} → (A → A) → List A → Option A → List A
last_changed f stack (Some x) = but_last stack ++ f x ∷ []
last_changed f stack None = stack

-- a stack with one value in place of its last two
abbrev pub last_two_joined : {A : Type 0} → (A → A → A) → List A → Option A → List A
last_two_joined f stack (Some right) = last_changed (λ left. f left right) (but_last stack) (last_on (but_last stack))
last_two_joined f stack None = stack

-- the stack after a step
unfoldable pub stack_after : {A : Type 0} → Actions A → Step → List A → List A
stack_after acts (Number n) stack = stack ++ acts.number n ∷ []
stack_after acts (Name column name) stack = stack ++ acts.name column name ∷ []
stack_after acts Here stack = stack ++ acts.here ∷ []
stack_after acts (Before prefix) stack = last_changed (acts.before prefix) stack (last_on stack)
stack_after acts (Between operator) stack = last_two_joined (acts.between operator) stack (last_on stack)

-- and after steps
unfoldable pub stack_behind : {A : Type 0} → Actions A → List Step → List A → List A
stack_behind acts [] stack = stack
stack_behind acts (s ∷ ss) stack = stack_behind acts ss (stack_after acts s stack)

-- the value that steps lead to: the last on the stack, or `empty` where none is there. An expression always has one.
abbrev pub top_of : {A : Type 0} → A → Option A → A
top_of empty (Some value) = value
top_of empty None = empty

unfoldable pub formula_value : {A : Type 0} → A → Actions A → List Step → A
formula_value empty acts ss = top_of empty (last_on (stack_behind acts ss []))
