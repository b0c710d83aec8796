-- the places from this one on decide, since all before it have their bytes
use Rattle.std.proofs.Common.{◌≡◌, length}
use Rattle.abs_domain.specs.StateView.{state_of}
use Rattle.certificate.specs.CertificateText.{has_place}
use Rattle.certificate.proofs.ScratchpadReads.{passes_from}
use Rattle.certificate.proofs.read.has_split.Given as goal

abbrev pub invariant-loop-place : goal.invariant-loop-place
invariant-loop-place l =
    passes_from (has_place l.tracked (l.point, state_of l.state)) l.place (length l.tracked)
    ≡ passes_from (has_place l.tracked (l.point, state_of l.state)) 0 (length l.tracked)
