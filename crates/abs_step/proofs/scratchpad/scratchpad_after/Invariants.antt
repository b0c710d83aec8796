-- The registers so far are those after the write.
use Rattle.std.proofs.Common.{◌≡◌, ◌<◌, ℕ, length, get_or}
use Rattle.abs_domain.specs.KnownParts.{known_byte}
use Rattle.abs_domain.specs.declared.values.Val.TheVariants.{Any}
use Rattle.abs_step.specs.RegisterWrites.{written_to}
use Rattle.abs_step.specs.WorkView.{write_view}
use Rattle.abs_step.proofs.scratchpad.scratchpad_after.Given as goal

abbrev pub invariant-loop-number : goal.invariant-loop-number
invariant-loop-number l = (length l.after ≡ 64) × ((k : ℕ) → k < l.number →
    known_byte (get_or l.after k Any) ≡ written_to (write_view l.write) k (known_byte (get_or l.scratchpad k Any)))
