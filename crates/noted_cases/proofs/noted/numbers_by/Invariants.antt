-- the numbers so far that the digits allow
use Rattle.std.proofs.Common.{◌≡◌}
use Rattle.std.specs.Prelude.{filter}
use Rattle.std.specs.List.{range_with_len}
use Rattle.abs_domain.specs.KnownParts.{known_digit}
use Rattle.abs_step.specs.RegisterWrites.{target_allows}
use Rattle.noted_cases.proofs.noted.numbers_by.Given as goal

abbrev pub invariant-loop-number : goal.invariant-loop-number
invariant-loop-number l = l.numbers.items
    ≡ filter (target_allows (record { high = known_digit l.high; low = known_digit l.low })) (range_with_len 0 l.number)
