-- The values of expressions.
use Rattle.std.specs.Prelude.{ℕ, ℤ, pos, List, Option, Some, None}
use Rattle.f8_asm.specs.declared.values.Outcome.{Outcome}
use Rattle.f8_asm.specs.declared.values.Outcome.TheVariants.{Value, Undefined}
use Rattle.f8_asm.specs.Values.{both, before}
use Rattle.f8_asm.specs.Names.{value_of}
use Rattle.f8_asm.specs.Grammar.{Actions}

abbrev pub name_value : ℕ → Option ℤ → Outcome
name_value column (Some v) = Value v
name_value column None = Undefined column

-- numbers, names and `.` stand for their values
abbrev pub values : List (List ℕ × ℤ) → ℕ → Actions Outcome
values names address = record {
  number = λ n. Value (pos n);
  name = λ column name. name_value column (value_of names name);
  here = Value (pos address);
  before = before;
  between = both;
}
