-- A step keeps the order of states: from a state that says more, no less is safe, and what holds next says no less.
use Rattle.std.specs.Prelude.{◌≡◌, ℕ, ◌<◌, ◌⊎◌, true, List, [], ◌∷◌, Some, None}
use Rattle.std.specs.List.{AllByRecursion}
use Rattle.std.specs.Option.{ForSome}
use Rattle.f8_spec.specs.BusArbitration.{Seat}
use Rattle.f8_spec.specs.declared.instructions.Op.{Op}
use Rattle.abs_domain.specs.AbstractState.{AbstractState, HasScratchpad, StateBelow}
use Rattle.abs_domain.specs.declared.points.Point.{Point}
use Rattle.abs_step.specs.MapView.{MapView, IsViewOf}
use Rattle.abs_step.specs.Successors.{HasTrackedBytes, Invariant, successors}
use Rattle.abs_step.specs.Safety.{op_at, unsafe_reason, is_fault_free}

-- some invariant of the list is at the point, and says no more
abbrev pub Covers : List Invariant → Invariant → Type 0
Covers [] x = ⊥
Covers (y ∷ ys) x = ((y.point ≡ x.point) × StateBelow x.state y.state) ⊎ Covers ys x

-- Two states at one point, of which the lower says more: both know as much of the tracked registers as the point does, the scratchpad is
-- whole, and what is known of D0 is an address.
pub record IsOrdered (tracked : List ℕ) (p : Point) (lower upper : AbstractState) : Type 0 where
  pub below : StateBelow lower upper
  pub lower_fits : HasTrackedBytes tracked (record { point = p; state = lower })
  pub upper_fits : HasTrackedBytes tracked (record { point = p; state = upper })
  pub scratchpad : HasScratchpad upper
  pub address : ForSome lower.counters.d0 (λ at. at < 65536)

pub record StepOrderLaw : Type 0 where
  -- where the upper one is safe, the lower one is
  pub safe : (m : MapView) (seats : List Seat) (tracked : List ℕ) (p : Point) (lower upper : AbstractState) → IsViewOf m seats →
      IsOrdered tracked p lower upper → unsafe_reason m tracked (record { point = p; state = upper }) ≡ None →
      unsafe_reason m tracked (record { point = p; state = lower }) ≡ None
  -- where it is free of faults besides, the lower one is
  pub fault_free : (m : MapView) (seats : List Seat) (tracked : List ℕ) (p : Point) (lower upper : AbstractState) → IsViewOf m seats →
      IsOrdered tracked p lower upper → is_fault_free m (record { point = p; state = upper }) ≡ true →
      is_fault_free m (record { point = p; state = lower }) ≡ true
  -- where it is safe, each successor of the lower one has one of the upper at its point that says no more
  pub successors : (m : MapView) (seats : List Seat) (tracked : List ℕ) (p : Point) (lower upper : AbstractState) → IsViewOf m seats →
      IsOrdered tracked p lower upper → unsafe_reason m tracked (record { point = p; state = upper }) ≡ None →
      (op : Op) → op_at m (record { point = p; state = upper }) ≡ Some op →
      AllByRecursion (Covers (successors op m tracked (record { point = p; state = upper })))
      (successors op m tracked (record { point = p; state = lower }))
