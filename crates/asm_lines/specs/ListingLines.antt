-- Lines of a text, each with the line feed that ends it.
use Rattle.std.specs.Prelude.{ℕ, ◌+◌, ◌==◌, List, length, position, Option, Some, None}

-- how many bytes the first line has, the line feed among them; without one, all bytes are a line
abbrev pub through : ℕ → Option ℕ → ℕ
through all None = all
through all (Some at) = at + 1

abbrev pub first_line_length : List ℕ → ℕ
first_line_length text = through (length text) (position (λ b. b == 10) text)
