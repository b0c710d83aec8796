-- Points and states that fit each other: the point has the bytes that the state knows of the tracked registers.
use Rattle.std.specs.Prelude.{ℕ, List}
use Rattle.std.specs.List.{AllByRecursion}
use Rattle.f8_spec.specs.declared.instructions.Op.{Op}
use Rattle.abs_domain.specs.AbstractState.{AbstractState, HasScratchpad}
use Rattle.abs_domain.specs.Joins.{joined_state}
use Rattle.abs_domain.specs.declared.points.Point.{Point}
use Rattle.abs_step.specs.MapView.{MapView}
use Rattle.abs_step.specs.Successors.{Invariant, HasTrackedBytes, start_invariant, successors}

-- It is so at the start, where two such states at one point are joined, and in all that holds next.
pub record FitLaw : Type 0 where
  pub start : (tracked : List ℕ) → HasTrackedBytes tracked start_invariant
  pub joined : (tracked : List ℕ) (p : Point) (s t : AbstractState) → HasScratchpad s → HasScratchpad t →
      HasTrackedBytes tracked (record { point = p; state = s }) → HasTrackedBytes tracked (record { point = p; state = t }) →
      HasTrackedBytes tracked (record { point = p; state = joined_state s t })
  pub successors : (op : Op) (m : MapView) (tracked : List ℕ) (x : Invariant) → HasScratchpad x.state →
      AllByRecursion (λ (y : Invariant). HasTrackedBytes tracked y × HasScratchpad y.state) (successors op m tracked x)
