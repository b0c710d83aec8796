-- Where the registers that are left have bytes, all have.
use Rattle.std.proofs.Common.{drop, map}
use Rattle.abs_domain.specs.KnownParts.{known_byte}
use Rattle.certificate.specs.CertificateLaws.{AreKnownBytes}
use Rattle.certificate.proofs.ranges.registers_law.Given as goal

abbrev pub invariant-loop-register : goal.invariant-loop-register
invariant-loop-register l = AreKnownBytes (map known_byte (drop l.register-index l.registers)) → AreKnownBytes (map known_byte l.registers)
