-- The registers so far are the common ones.
use Rattle.std.proofs.Common.{◌≡◌, ◌<◌, ℕ, length, get_or}
use Rattle.abs_domain.specs.Lattice.{common, same_number}
use Rattle.abs_domain.specs.KnownParts.{known_byte}
use Rattle.abs_domain.specs.declared.values.Val.TheVariants.{Any}
use Rattle.abs_domain.proofs.scratchpad.scratchpad_join.Given as goal

abbrev pub invariant-loop-number : goal.invariant-loop-number
invariant-loop-number l = (length l.joined ≡ 64) × ((k : ℕ) → k < l.number →
    known_byte (get_or l.joined k Any) ≡ common same_number (known_byte (get_or l.first k Any)) (known_byte (get_or l.second k Any)))
