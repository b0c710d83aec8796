-- How many questions were put to a chip.
use Rattle.std.specs.Prelude.{ℕ, ◌+◌, nat_lt, if◌then◌else◌}

-- one more than so many, and no more than the greatest u64
abbrev pub one_more : ℕ → ℕ
one_more asked = if nat_lt asked 18446744073709551615 then asked + 1 else asked
