-- The union of the list so far with the numbers that are left is the whole union.
use Rattle.std.proofs.Common.{◌≡◌, drop}
use Rattle.value_sets.specs.ValueSets.{union}
use Rattle.value_sets.proofs.numbers.union_of.Given as goal

abbrev pub invariant-loop-number : goal.invariant-loop-number
invariant-loop-number g l = union l.numbers.items (drop l.number-index l.more) ≡ union l.initial.numbers.items l.more
