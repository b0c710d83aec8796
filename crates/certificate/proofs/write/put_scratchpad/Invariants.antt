-- The registers so far are told.
use Rattle.std.proofs.Common.{◌≡◌, ◌++◌, take, map, codes}
use Rattle.abs_domain.specs.KnownParts.{known_byte}
use Rattle.certificate.specs.Parts.{bytes_text}
use Rattle.certificate.proofs.write.put_scratchpad.Given as goal

abbrev pub invariant-loop-register : goal.invariant-loop-register
invariant-loop-register l =
    l.out.items ≡ l.initial.out.items ++ bytes_text (codes "") (map known_byte (take l.register-index l.registers))
