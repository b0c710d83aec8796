-- the registers so far have their bytes
use Rattle.std.proofs.Common.{◌≡◌, ◌<◌, ℕ, length, get_or}
use Rattle.std.specs.Prelude.{None}
use Rattle.abs_domain.specs.KnownParts.{known_byte}
use Rattle.abs_domain.specs.declared.values.Val.TheVariants.{Any}
use Rattle.certificate.proofs.entry.registers_of.Given as goal

abbrev pub invariant-loop-number : goal.invariant-loop-number
invariant-loop-number l = (length l.registers ≡ 64) × ((k : ℕ) → k < l.number → known_byte (get_or l.registers k Any) ≡ get_or l.bytes k None)
