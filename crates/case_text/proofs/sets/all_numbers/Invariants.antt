-- The numbers so far.
use Rattle.std.proofs.Common.{◌≡◌, length}
use Rattle.std.specs.List.{range_with_len}
use Rattle.case_text.proofs.sets.all_numbers.Given as goal

abbrev pub invariant-loop-number : goal.invariant-loop-number
invariant-loop-number l = (l.numbers.items ≡ range_with_len 0 l.number) × (length l.numbers.items ≡ l.number)
