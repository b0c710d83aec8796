-- What holds of the maps that are closed and safe: an examination finds them so, and their texts say as much.
use Rattle.std.specs.Prelude.{◌≡◌, ℕ, ◌+◌, ◌*◌, ◌≤◌, List, length, Ok}
use Rattle.abs_domain.specs.AbstractState.{AbstractState}
use Rattle.abs_domain.specs.declared.points.Point.{Point}
use Rattle.abs_step.specs.MapView.{MapView}
use Rattle.abs_step.specs.CartridgeAnalysis.{analysis}
use Rattle.abs_step.specs.ReachedStates.{IsSafelyClosed, HoldsFaultFreeStates}
use Rattle.certificate.specs.CertificateLaws.{HaveSplit}
use Rattle.certificate.specs.CertificateText.{certificate_of, certificate_text}
use Rattle.certificate.specs.Examination.{examined}
use Rattle.certificate.specs.declared.examined.VerifyAnswer.TheVariants.{Whole, Agreed}

pub record ClosedMapLaw : Type 0 where
  -- the points of such a map have the bytes that their states know of the tracked registers, so that it may be verified and written
  pub split : (m : MapView) (tracked : List ℕ) (notes : List (Point × AbstractState)) → IsSafelyClosed (analysis m tracked) notes →
      HaveSplit tracked notes
  -- the text of such a map is read as the map
  pub read : (m : MapView) (tracked : List ℕ) (notes : List (Point × AbstractState)) → length tracked ≤ 8 →
      IsSafelyClosed (analysis m tracked) notes → certificate_of tracked (certificate_text tracked notes) ≡ Ok notes
  -- that text has at most 15 bytes, and 195 more for each point
  pub size : (m : MapView) (tracked : List ℕ) (notes : List (Point × AbstractState)) → length tracked ≤ 8 →
      IsSafelyClosed (analysis m tracked) notes → length (certificate_text tracked notes) ≤ 15 + 195 * length notes
  -- it is found whole where it is free of faults besides, and agreed where it isn't
  pub whole : (m : MapView) (tracked : List ℕ) (notes : List (Point × AbstractState)) → IsSafelyClosed (analysis m tracked) notes →
      HoldsFaultFreeStates (analysis m tracked) notes → examined (analysis m tracked) notes ≡ Whole
  pub agreed : (m : MapView) (tracked : List ℕ) (notes : List (Point × AbstractState)) → IsSafelyClosed (analysis m tracked) notes →
      (HoldsFaultFreeStates (analysis m tracked) notes → ⊥) → examined (analysis m tracked) notes ≡ Agreed
