-- What an examination of an invariant map finds: whether the map is closed, safe and free of faults, or the first failure.
use Rattle.std.specs.Prelude.{Bool, true, false, if◌then◌else◌, List, [], ◌∷◌, Option}
use Rattle.std.specs.Prelude.{Some, None, option_map, unwrap_or, Result, Ok, Err}
use Rattle.std.specs.List.{list_all}
use Rattle.std.specs.Map.{lookup}
use Rattle.std.specs.Option.{option_or}
use Rattle.std.specs.BTreeMap.{is_at}
use Rattle.std.specs.declared.cmp.Ordering.{Ordering}
use Rattle.abs_domain.specs.AbstractState.{AbstractState}
use Rattle.abs_domain.specs.declared.points.Point.{Point}
use Rattle.abs_domain.specs.declared.reason.Reason.{Reason}
use Rattle.abs_step.specs.Analysis.{Analysis}
use Rattle.certificate.specs.declared.examined.VerifyAnswer.{VerifyAnswer}
use Rattle.certificate.specs.declared.examined.VerifyAnswer.TheVariants.{Whole, Agreed, NotClosed, Unsafe}

-- ---- whether a map covers what holds, by the orders of points and of states

-- a state is below another one, if there is one
abbrev pub is_under : {S : Type 0} → (S → S → Bool) → S → Option S → Bool
is_under below s None = false
is_under below s (Some upper) = below s upper

module _ {P S : Type 0} (order : P → P → Ordering) (below : S → S → Bool) (notes : List (P × S)) where
  -- the map has a state at the point that says no more
  abbrev pub covers : P → S → Bool
  covers p s = is_under below s (lookup (is_at (order p)) notes)

  -- the point of the first state that isn't covered
  abbrev pub first_open : List (P × S) → Option P
  first_open [] = None
  first_open (way ∷ ways) = if covers way.0 way.1 then first_open ways else Some way.0

-- ---- what is found, over an analysis

-- where there is no failure
abbrev pub safe_answer : Bool → VerifyAnswer
safe_answer true = Whole
safe_answer false = Agreed

module _ (an : Analysis Point AbstractState) where
  -- the failure at a point: its state isn't safe, or else it leads to one that isn't covered
  abbrev pub failure_by : List (Point × AbstractState) → Point → Result (List (Point × AbstractState)) Reason → Option VerifyAnswer
  failure_by notes p (Err reason) = Some (Unsafe p reason)
  failure_by notes p (Ok ways) = option_map (λ q. NotClosed (Some p) q) (first_open an.order an.below notes ways)

  abbrev pub failure_at : List (Point × AbstractState) → Point × AbstractState → Option VerifyAnswer
  failure_at notes e = failure_by notes e.0 (an.next e.0 e.1)

  -- the first failure at some points of the map, in their order
  abbrev pub first_failure : List (Point × AbstractState) → List (Point × AbstractState) → Option VerifyAnswer
  first_failure notes [] = None
  first_failure notes (e ∷ es) = option_or (failure_at notes e) (first_failure notes es)

  -- the start first, and then each point
  abbrev pub examined : List (Point × AbstractState) → VerifyAnswer
  examined notes =
      if covers an.order an.below notes an.start_point an.start_state
      then unwrap_or (first_failure notes notes) (safe_answer (list_all (λ e. an.is_fault_free e.0 e.1) notes))
      else NotClosed None an.start_point
