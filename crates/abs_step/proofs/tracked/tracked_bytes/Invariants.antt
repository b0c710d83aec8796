-- The bytes so far are those of the tracked registers.
use Rattle.std.proofs.Common.{◌≡◌, ◌<◌, ℕ, length, get_or}
use Rattle.std.specs.Prelude.{None}
use Rattle.abs_step.specs.Successors.{tracked_byte}
use Rattle.abs_step.proofs.tracked.tracked_bytes.Given as goal

abbrev pub invariant-loop-place : goal.invariant-loop-place
invariant-loop-place l = (length l.bytes ≡ 8) × ((k : ℕ) → k < l.place → get_or l.bytes k None ≡ tracked_byte l.split l.registers k)
