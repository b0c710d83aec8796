-- What the names of a module stand for in its expressions.
use Rattle.std.specs.Prelude.{ℕ, pos, Bool, false, ◌||◌, List, [], ◌∷◌, Option, Some, None, is_some}
use Rattle.f8_asm.specs.Formulas.{formula_value}
use Rattle.f8_asm.specs.Grammar.{Actions}
use Rattle.f8_asm.specs.Names.{value_of}
use Rattle.f8_asm.specs.declared.formulas.Step.{Step}
use Rattle.f8_asm.specs.declared.formulas.Step.TheVariants as step
use Rattle.f8_link.specs.declared.values.Base.TheVariants.{Module, Import}
use Rattle.f8_link.specs.declared.values.Found.{Found}
use Rattle.f8_link.specs.declared.values.Found.TheVariants as found
use Rattle.f8_link.specs.declared.values.Named.{Named}
use Rattle.f8_link.specs.declared.values.Value.TheVariants.{Constant, Placed}
use Rattle.f8_link.specs.Values.{near, used, both, before}

-- an import is placed on itself
abbrev pub import_found : ℕ → Option ℕ → Found
import_found column (Some i) = found.Value (Placed (Import i) (pos 0))
import_found column None = found.Undefined column

-- a name is the module's own, or else an import
abbrev pub name_found : ℕ → Option Named → Option ℕ → Found
name_found column (Some v) import = used v
name_found column None import = import_found column import

-- numbers stand for themselves, names for what they have so far, and `.` for its offset in the module
abbrev pub placed_values : List (List ℕ × Named) → List (List ℕ × ℕ) → ℕ → Actions Found
placed_values names imports offset = record {
  number = λ n. found.Value (Constant (pos n));
  name = λ column name. name_found column (value_of names name) (value_of imports name);
  here = near Module (pos offset);
  before = before;
  between = both;
}

-- what an expression, kept as its steps, comes to at an offset
abbrev pub formula_found : List (List ℕ × Named) → List (List ℕ × ℕ) → ℕ → List Step → Found
formula_found names imports offset ss = formula_value found.OutOfRange (placed_values names imports offset) ss

-- an import is named anywhere in an expression
abbrev pub names_import : List (List ℕ × ℕ) → List Step → Bool
names_import imports [] = false
names_import imports (step.Name column name ∷ ss) = is_some (value_of imports name) || names_import imports ss
names_import imports (s ∷ ss) = names_import imports ss
