-- What is read so far stands before what the rest gives.
use Rattle.std.proofs.Common.{◌≡◌, ◌-◌, length, take}
use Rattle.certificate.specs.Parts.{bytes_at}
use Rattle.certificate.proofs.BytesRead.{with_front}
use Rattle.certificate.proofs.parts.bytes_at.Given as goal

abbrev pub invariant-loop-byte : goal.invariant-loop-byte
invariant-loop-byte l =
    with_front (take l.byte-index l.bytes) (bytes_at l.mark (length l.bytes - l.byte-index) l.rest)
    ≡ bytes_at l.mark (length l.bytes) l.fn.text
