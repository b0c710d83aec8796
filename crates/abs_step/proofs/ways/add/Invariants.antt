-- None of the exits so far is that of the new way.
use Rattle.std.proofs.Common.{◌≡◌, ◌<◌, ℕ, false, get_or}
use Rattle.abs_step.specs.WaysOn.{same_exit}
use Rattle.abs_step.proofs.AddedWays.{no_way}
use Rattle.abs_step.proofs.ways.add.Given as goal

abbrev pub invariant-loop-place : goal.invariant-loop-place
invariant-loop-place l =
    (l.ways ≡ l.initial.ways) × ((k : ℕ) → k < l.place → same_exit l.way.exit (get_or l.ways.items k no_way).exit ≡ false)
