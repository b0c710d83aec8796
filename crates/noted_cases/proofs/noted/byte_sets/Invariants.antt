-- the sets so far
use Rattle.std.proofs.Common.{◌≡◌, length, map, take}
use Rattle.abs_domain.specs.KnownParts.{known_byte}
use Rattle.value_sets.specs.SetViews.{byte_values}
use Rattle.value_sets.specs.ValueSets.{set_of}
use Rattle.noted_cases.proofs.noted.byte_sets.Given as goal

abbrev pub invariant-loop-number : goal.invariant-loop-number
invariant-loop-number l = (length l.sets ≡ 64)
    × (map byte_values (take l.number l.sets) ≡ map (λ byte. set_of (known_byte byte)) (take l.number l.known))
