-- The sockets of the chips described.
use Rattle.std.specs.Prelude.{ℕ, ◌≢◌, List, AllPairs}

-- no socket stands twice
abbrev pub AreDistinct : List ℕ → Type 0
AreDistinct sockets = AllPairs (λ one other. one ≢ other) sockets
