-- What holds of certificates and of the maps that they have.
use Rattle.std.specs.Prelude.{◌≡◌, ℕ, ◌<◌, ◌≤◌, List, length, Option, Ok}
use Rattle.std.specs.List.{AllByRecursion}
use Rattle.std.specs.Option.{ForSome}
use Rattle.std.specs.List.Sorted.{IsStrictlySortedBy}
use Rattle.std.specs.Map.{keys_of}
use Rattle.abs_domain.specs.AbstractState.{AbstractState, HasScratchpad}
use Rattle.abs_domain.specs.PointOrder.{point_cmp}
use Rattle.abs_domain.specs.declared.points.Point.{Point}
use Rattle.abs_step.specs.Successors.{HasTrackedBytes}
use Rattle.abs_step.specs.CartridgeAnalysis.{IsWithinRange, FitsPoint, as_invariant}
use Rattle.certificate.specs.CertificateText.{certificate_of, certificate_text}

-- the points have the bytes that their states know of the tracked registers
abbrev pub HaveSplit : List ℕ → List (Point × AbstractState) → Type 0
HaveSplit tracked notes = AllByRecursion (λ e. HasTrackedBytes tracked (as_invariant e)) notes

-- the same, and all that is known is within its range
abbrev pub AllFit : List ℕ → List (Point × AbstractState) → Type 0
AllFit tracked notes = AllByRecursion (λ e. FitsPoint tracked e.0 e.1) notes

-- bytes that may be unknown are below 256
abbrev pub AreKnownBytes : List (Option ℕ) → Type 0
AreKnownBytes bytes = AllByRecursion (λ byte. ForSome byte (λ b. b < 256)) bytes

-- all that is known at a point is within its range
pub record IsInRange (e : Point × AbstractState) : Type 0 where
  pub at : e.0.at < 65536
  pub ret : ForSome e.0.ret (λ at. at < 65536)
  pub state : IsWithinRange e.1
  pub scratchpad : HasScratchpad e.1

abbrev pub AllInRange : List (Point × AbstractState) → Type 0
AllInRange notes = AllByRecursion IsInRange notes

-- A map of at least one point is what is read from its text.
pub record RoundTripLaw : Type 0 where
  pub again : (tracked : List ℕ) (notes : List (Point × AbstractState)) → length tracked ≤ 8 → 1 ≤ length notes → length notes ≤ 65536 →
      IsStrictlySortedBy point_cmp (keys_of notes) → AllFit tracked notes → certificate_of tracked (certificate_text tracked notes) ≡ Ok notes
