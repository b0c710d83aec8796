-- The registers so far are below.
use Rattle.std.proofs.Common.{◌≡◌, ◌<◌, ℕ, true, get_or}
use Rattle.abs_domain.specs.Lattice.{is_below, same_number}
use Rattle.abs_domain.specs.KnownParts.{known_byte}
use Rattle.abs_domain.specs.declared.values.Val.TheVariants.{Any}
use Rattle.abs_domain.proofs.scratchpad.scratchpad_below.Given as goal

abbrev pub invariant-loop-number : goal.invariant-loop-number
invariant-loop-number l = (k : ℕ) → k < l.number →
    is_below same_number (known_byte (get_or l.lower k Any)) (known_byte (get_or l.upper k Any)) ≡ true
