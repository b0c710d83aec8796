-- A map that was worked out by hand is found whole by one equation, so that soundness speaks of it.
use Rattle.std.proofs.Common.{◌≡◌, [], refl, arith}
use Rattle.std.specs.Prelude.{None}
use Rattle.std.specs.List.Sorted.{IsStrictlySortedBy}
use Rattle.std.specs.Map.{keys_of}
use Rattle.abs_domain.specs.PointOrder.{point_cmp}
use Rattle.abs_step.specs.CartridgeAnalysis.{analysis}
use Rattle.abs_step.specs.MapView.{chips_view}
use Rattle.abs_step.specs.ReachedStates.{IsInvariantMap}
use Rattle.certificate.specs.VerifiedMaps.{GoesOnAlways}
use Rattle.certificate.proofs.ClosedMaps.{map_of_fitting}
use Rattle.certificate.proofs.ReadFits.{certificate_fits}
use Rattle.certificate.proofs.VerifiedMaps.{whole_goes_on}
use Rattle.certificate.proofs.WorkedCertificates.{certificate, notes, read}
use Rattle.certificate.proofs.WorkedExaminations.{as_printed, lone, loop}

ascends : IsStrictlySortedBy point_cmp (keys_of notes)
unfolding IsStrictlySortedBy
ascends = ((refl, (refl, tt)), ((refl, tt), (tt, tt)))

is_map : IsInvariantMap (analysis (chips_view (lone loop)) []) notes
is_map = map_of_fitting (chips_view (lone loop)) [] notes ascends (omega arith) (certificate_fits [] certificate notes (omega arith) read)

-- `LIS 1`, `NOP` and a branch to the `NOP` on one 3851: each access of each run is served, whatever comes by its inputs
served : GoesOnAlways (λ here fault. fault ≡ None) (lone loop)
served = whole_goes_on (lone loop) [] notes is_map as_printed
