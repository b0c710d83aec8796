-- How far entries go on.
use Rattle.std.specs.Prelude.{ℕ, suc, ◌+◌, ◌==◌, if◌then◌else◌, List, [], ◌∷◌}

-- how many of the first entries lie at this address and those that follow it
abbrev pub following : ℕ → List (ℕ × ℕ) → ℕ
following at [] = 0
following at (e ∷ es) = if e.0 == at then suc (following (at + 1) es) else 0
