-- Counts that stop at the greatest u64.
use Rattle.std.specs.Prelude.{◌≡◌, ℕ, ◌+◌, ◌-◌, ◌^◌, ◌<◌, ◌⊎◌, min}

-- so many more, or the greatest u64
abbrev pub raised : ℕ → ℕ → ℕ
raised n by = min (n + by) (2 ^ 64 - 1)

abbrev pub one_more : ℕ → ℕ
one_more n = raised n 1

-- A count rose in a call: it is greater after it, or stands at the greatest u64.
abbrev pub Rose : ℕ → ℕ → Type 0
Rose before now = (before < now) ⊎ (now ≡ 2 ^ 64 - 1)
