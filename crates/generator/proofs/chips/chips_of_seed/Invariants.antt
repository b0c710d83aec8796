-- The chips so far are the first ones.
use Rattle.std.proofs.Common.{◌≡◌, map}
use Rattle.std.specs.List.{range_with_len}
use Rattle.console_spec.specs.Generator.{generated}
use Rattle.generator.specs.GeneratedChips.{chip_at}
use Rattle.generator.proofs.chips.chips_of_seed.Given as goal

abbrev pub invariant-loop-number : goal.invariant-loop-number
invariant-loop-number l = l.chips.items ≡ map (chip_at (generated l.seed)) (range_with_len 0 l.number)
