-- the registers so far are known where their sets have one value
use Rattle.std.proofs.Common.{◌≡◌, length, take, map}
use Rattle.abs_domain.specs.KnownParts.{known_byte}
use Rattle.value_sets.specs.SetViews.{byte_values}
use Rattle.value_sets.specs.ValueSets.{single}
use Rattle.case_step.proofs.cases.known_registers.Given as goal

abbrev pub invariant-loop-number : goal.invariant-loop-number
invariant-loop-number l = (length l.known ≡ 64)
    × (map known_byte (take l.number l.known) ≡ map (λ set. single (byte_values set)) (take l.number l.regs))
