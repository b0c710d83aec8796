-- As many numbers at most as were looked at, and each that of a register.
use Rattle.std.proofs.Common.{ℕ, ◌<◌, ◌≤◌, length}
use Rattle.std.specs.List.{All}
use Rattle.case_search.proofs.numbers.every_number.Given as goal

abbrev pub invariant-loop-number : goal.invariant-loop-number
invariant-loop-number l = (length l.numbers.items ≤ l.number) × (l.number ≤ 64) × All (λ number. number < 64) l.numbers.items
