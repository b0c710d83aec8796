-- What a bus step has to be for a chip to hear it.
use Rattle.std.specs.Prelude.{ℕ, ◌≡◌, ◌⊎◌}

-- a bus step lasts 4 Φ, or 6 where it is a long one
abbrev pub IsStepLength : ℕ → Type 0
IsStepLength clocks = (clocks ≡ 4) ⊎ (clocks ≡ 6)
