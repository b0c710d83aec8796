-- What a map that is found whole or agreed says of runs with free inputs; and that rules which follow no vector find no more.
use Rattle.std.specs.Prelude.{◌≡◌, ℕ, List, Option, None}
use Rattle.f8_spec.specs.BusArbitration.{Seat}
use Rattle.chip_face.specs.declared.specification.ChipSpec.{ChipSpec}
use Rattle.console_spec.specs.FreeRuns.{IsFreeStart, IsReached}
use Rattle.console_spec.specs.Run.{Position, reset_fault}
use Rattle.console_spec.specs.Services.{Fault}
use Rattle.abs_domain.specs.AbstractState.{AbstractState}
use Rattle.abs_domain.specs.declared.points.Point.{Point}
use Rattle.abs_step.specs.CartridgeAnalysis.{analysis}
use Rattle.abs_step.specs.MapView.{MapView, IsViewOf, chips_view}
use Rattle.abs_step.specs.ReachedStates.{IsInvariantMap}
use Rattle.abs_step.specs.Soundness.{GoesOn, OnlyUndriven}
use Rattle.abs_step.specs.WithoutVectors.{without_vectors}
use Rattle.certificate.specs.Examination.{examined}
use Rattle.certificate.specs.declared.examined.VerifyAnswer.TheVariants.{Whole, Agreed}

-- In every run with free inputs on a rack of which what is known of these chips is right, reset is served, and a claim holds of each
-- instruction's fault. So it is of the chips themselves, and of a rack in which they sit.
pub record GoesOnAlways (claim : Position → Option Fault → Type 0) (chips : List ChipSpec) : Type 0 where
  pub reset : (seats : List Seat) → IsViewOf (chips_view chips) seats → (here : Position) → IsFreeStart (chips_view chips).byte seats here →
      reset_fault here ≡ None
  pub each : (seats : List Seat) → IsViewOf (chips_view chips) seats → (n : ℕ) (here : Position) →
      IsReached (chips_view chips).byte seats n here → GoesOn (claim here) here

pub record VerifiedLaw : Type 0 where
  -- a map that is found whole shows that each access is served
  pub whole : (chips : List ChipSpec) (tracked : List ℕ) (notes : List (Point × AbstractState)) →
      IsInvariantMap (analysis (chips_view chips) tracked) notes → examined (analysis (chips_view chips) tracked) notes ≡ Whole →
      GoesOnAlways (λ here fault. fault ≡ None) chips
  -- and one that is found agreed, that each is but for reads that no chip answers at D0
  pub agreed : (chips : List ChipSpec) (tracked : List ℕ) (notes : List (Point × AbstractState)) →
      IsInvariantMap (analysis (chips_view chips) tracked) notes → examined (analysis (chips_view chips) tracked) notes ≡ Agreed →
      GoesOnAlways (λ here fault. OnlyUndriven here.flat.state.flow.d0 fault) chips
  -- what is found whole or agreed without vectors is found so with them
  pub kept_whole : (m : MapView) (tracked : List ℕ) (notes : List (Point × AbstractState)) →
      examined (analysis (without_vectors m) tracked) notes ≡ Whole → examined (analysis m tracked) notes ≡ Whole
  pub kept_agreed : (m : MapView) (tracked : List ℕ) (notes : List (Point × AbstractState)) →
      examined (analysis (without_vectors m) tracked) notes ≡ Agreed → examined (analysis m tracked) notes ≡ Agreed
