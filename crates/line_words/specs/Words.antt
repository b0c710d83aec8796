-- Which lines of a text are skipped, and the words of a line.
use Rattle.std.specs.Prelude.{ℕ, Bool, ◌||◌, ◌==◌, List, [], ◌∷◌, Option, Some, None, if◌then◌else◌}
use Rattle.std.specs.List.{list_all}
use Rattle.text_lines.specs.Lines.{begins, with_first}

-- a blank or a tab
abbrev pub is_space : ℕ → Bool
is_space b = (b == 32) || (b == 9)

-- a blank line, or a comment: its first byte is `#`
abbrev pub is_skipped : List ℕ → Bool
is_skipped line = begins 35 line || list_all is_space line

-- single blanks part words; two blanks in a row have a word of no byte between them
abbrev pub words : List ℕ → List (List ℕ)
words [] = [] ∷ []
words (b ∷ bs) = if b == 32 then [] ∷ words bs else with_first b (words bs)

-- the one word that is left
abbrev pub lone : List (List ℕ) → Option (List ℕ)
lone [] = None
lone (word ∷ []) = Some word
lone (word ∷ (next ∷ words)) = None
