-- What holds next fits.
use Rattle.std.proofs.Common.{ℕ, List}
use Rattle.std.specs.List.{AllByRecursion}
use Rattle.f8_spec.specs.declared.instructions.Op.{Op}
use Rattle.abs_domain.specs.declared.points.Point.{Point}
use Rattle.abs_domain.specs.declared.state.Abs.{Abs}
use Rattle.abs_domain.proofs.Bounds.{join_laws}
use Rattle.abs_step.specs.MapView.{MapView}
use Rattle.abs_step.specs.Successors.{HasTrackedBytes, successors, start_invariant}
use Rattle.abs_step.specs.StepView.{invariant_at}
use Rattle.abs_step.proofs.Members.{all_map}
use Rattle.abs_step.proofs.TrackedFits.{fits}

pub start_fits : (tracked : List ℕ) → HasTrackedBytes tracked start_invariant
start_fits tracked = fits.start tracked

-- what holds next after a state that the program holds
pub next_fits : (op : Op) (m : MapView) (tracked : List ℕ) (p : Point) (s : Abs) →
    AllByRecursion (HasTrackedBytes tracked) (successors op m tracked (invariant_at p s))
next_fits op m tracked p s =
    all_map _ (HasTrackedBytes tracked) _ (λ y h. h.0) (fits.successors op m tracked (invariant_at p s) (join_laws.whole s))
