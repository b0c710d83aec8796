-- Which addresses hold a byte.
use Rattle.std.specs.Prelude.{ℕ, zero, suc, ◌+◌, Bool, true, false, not, List, replicate, slice_set, slice_range}
use Rattle.std.specs.List.{list_any}

-- none of so many addresses is marked
unfoldable pub no_marks : ℕ → List Bool
no_marks size = replicate size false

-- so many addresses from one on are marked
abbrev pub marks_with : List Bool → ℕ → ℕ → List Bool
marks_with marks at zero = marks
marks_with marks at (suc n) = slice_set (marks_with marks at n) (at + n) true

-- none of so many addresses from one on is marked
abbrev pub is_free : List Bool → ℕ → ℕ → Bool
is_free marks at size = not (list_any (λ mark. mark) (slice_range marks at (at + size)))
