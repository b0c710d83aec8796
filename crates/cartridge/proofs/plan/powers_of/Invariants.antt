-- what is said of the chips so far
use Rattle.std.proofs.Common.{◌≡◌, map, take}
use Rattle.cartridge.specs.Filling.{power_of}
use Rattle.cartridge.specs.Plans.{seen_chip}
use Rattle.cartridge.proofs.plan.powers_of.Given as goal

abbrev pub invariant-loop-chip : goal.invariant-loop-chip
invariant-loop-chip l = l.powers ≡ map (λ chip. power_of (seen_chip chip)) (take l.chip-index l.chips)
