-- The registers that a checker tracks, as a list.
use Rattle.std.specs.Prelude.{ℕ, ◌<◌, ◌≤◌, ◌≡◌, ◌==◌, ◌&&◌, Bool, true, not, All, List, [], ◌∷◌, length}
use Rattle.std.specs.List.{list_any}

abbrev pub is_among : List ℕ → ℕ → Bool
is_among rs r = list_any (λ other. other == r) rs

abbrev pub are_different : List ℕ → Bool
are_different [] = true
are_different (r ∷ rs) = not (is_among rs r) && are_different rs

pub record IsSplit (registers : List ℕ) : Type 0 where
  pub few : length registers ≤ 8
  pub below : All (λ r. r < 64) registers
  pub different : are_different registers ≡ true
