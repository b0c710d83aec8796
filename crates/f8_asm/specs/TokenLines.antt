-- The lines of a text by their tokens.
use Rattle.std.specs.Prelude.{ℕ, List}
use Rattle.asm_text.specs.declared.answers.Token.{Token}

-- a line with its number, counted from 1
pub record Line : Type 0 where
  pub number : ℕ
  pub tokens : List Token

-- and with the address where it begins
pub record PlacedLine : Type 0 where
  pub address : ℕ
  pub line : Line
