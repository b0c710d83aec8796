-- How many questions were put to the chips of a rack, one by one.
use Rattle.std.specs.Prelude.{ℕ, ◌+◌, ◌≤◌, Option}
use Rattle.f8_spec.specs.BusArbitration.{is_first}
use Rattle.f8_spec.specs.declared.bus.BusRule.{BusRule}
use Rattle.data_bus.specs.Allowances.{questions_at}

-- the chip in a socket was put so many questions at most
abbrev pub AskedAtMost : ℕ → ℕ → ℕ → ℕ → Type 0
AskedAtMost most socket old new = new ≤ old + most

-- it was put no more than a step by a rule puts to one chip, by the socket of the chip whose interrupt is acknowledged
abbrev pub AskedBy : BusRule → Option ℕ → ℕ → ℕ → ℕ → Type 0
AskedBy rule first socket old new = new ≤ old + questions_at rule (is_first first socket)
