-- States as the program holds them, read as those of an analysis: what a look-up finds, what the checker's step tells, and whether all are
-- free of faults.
use Rattle.std.proofs.Common.{◌≡◌, ◌≤◌, ◌+◌, ℕ, zero, suc, Bool, true, false, ◌&&◌, List, [], ◌∷◌, drop, length, map, refl, sym, ap, ◌∙◌}
use Rattle.std.proofs.Common.{arith}
use Rattle.std.specs.Prelude.{Option, Some, None, option_map, slice_get, Ok, Err}
use Rattle.std.specs.List.{list_all}
use Rattle.std.specs.Map.{lookup}
use Rattle.std.specs.BTreeMap.{is_at}
use Rattle.std.proofs.lemmas.Map.Made.{lookup-map_values}
use Rattle.f8_spec.specs.declared.instructions.Op.{Op}
use Rattle.abs_domain.specs.AbstractState.{AbstractState}
use Rattle.abs_domain.specs.Joins.{is_state_below}
use Rattle.abs_domain.specs.PointOrder.{point_cmp}
use Rattle.abs_domain.specs.StateView.{state_of}
use Rattle.abs_domain.specs.declared.points.Point.{Point}
use Rattle.abs_domain.specs.declared.state.Abs.{Abs}
use Rattle.abs_domain.specs.declared.reason.Reason.{Reason}
use Rattle.abs_step.specs.MapView.{MapView}
use Rattle.abs_step.specs.Successors.{Invariant}
use Rattle.abs_step.specs.Safety.{unsafe_reason, is_fault_free, op_at}
use Rattle.abs_step.specs.StepView.{invariant_of, next_by, next_at}
use Rattle.abs_step.specs.StatesAtPoints.{states_of}
use Rattle.abs_step.specs.CartridgeAnalysis.{entry_of, as_invariant, answer_by, answer_at, analysis}
use Rattle.certificate.specs.Examination.{covers, first_open, failure_by, failure_at}
use Rattle.certificate.specs.declared.examined.VerifyAnswer.TheVariants.{NotClosed}

pub found_as : (notes : List (Point × Abs)) (p : Point) →
    lookup (is_at (point_cmp p)) (states_of notes) ≡ option_map state_of (lookup (is_at (point_cmp p)) notes)
found_as notes p = lookup-map_values state_of (is_at (point_cmp p)) notes

pub free_as : (m : MapView) (notes : List (Point × Abs)) →
    list_all (λ e. is_fault_free m (invariant_of e)) notes ≡ list_all (λ e. is_fault_free m (as_invariant e)) (states_of notes)
free_as m [] = refl
free_as m (e ∷ es) = ap (λ (b : Bool). is_fault_free m (invariant_of e) && b) (free_as m es)

-- ---- a step

safe_by : (o : Option Op) (m : MapView) (tracked : List ℕ) (x : Invariant) →
    answer_by None o m tracked x ≡ Ok (map entry_of (next_by o m tracked x))
safe_by None m tracked x = refl
safe_by (Some op) m tracked x = refl

pub next_safe : (m : MapView) (tracked : List ℕ) (x : Invariant) (ways : List Invariant) → unsafe_reason m tracked x ≡ None →
    ways ≡ next_at m tracked x → answer_at m tracked x ≡ Ok (map entry_of ways)
next_safe m tracked x ways safe leads =
    ap (λ (r : Option Reason). answer_by r (op_at m x) m tracked x) safe
    ∙ safe_by (op_at m x) m tracked x
    ∙ ap (λ (xs : List Invariant). Ok (map entry_of xs)) (sym leads)

pub next_unsafe : (m : MapView) (tracked : List ℕ) (x : Invariant) (reason : Reason) → unsafe_reason m tracked x ≡ Some reason →
    answer_at m tracked x ≡ Err reason
next_unsafe m tracked x reason is = ap (λ (r : Option Reason). answer_by r (op_at m x) m tracked x) is

-- the failure of a safe state, by the first to which it leads that isn't covered
pub failure_safe : (m : MapView) (tracked : List ℕ) (notes : List (Point × AbstractState)) (x : Invariant) (ways : List Invariant)
    (open_at : Option Point) → unsafe_reason m tracked x ≡ None → ways ≡ next_at m tracked x →
    first_open point_cmp is_state_below notes (map entry_of ways) ≡ open_at →
    option_map (λ q. NotClosed (Some x.point) q) open_at ≡ failure_at (analysis m tracked) notes (x.point, x.state)
failure_safe m tracked notes x ways open_at safe leads is =
    sym (ap (failure_by (analysis m tracked) notes x.point) (next_safe m tracked x ways safe leads)
    ∙ ap (option_map (λ q. NotClosed (Some x.point) q)) is)

-- ---- one of what holds next after the other

-- one that is covered is passed over
pub open_step : (notes : List (Point × AbstractState)) (ways : List Invariant) (k more : ℕ) (way : Point × Abs) → more ≡ k + 1 →
    slice_get ways k ≡ Some (invariant_of way) → covers point_cmp is_state_below notes way.0 (state_of way.1) ≡ true →
    first_open point_cmp is_state_below notes (map entry_of (drop more ways))
    ≡ first_open point_cmp is_state_below notes (map entry_of (drop k ways))
open_step notes [] k more way next is covered = absurd (cc)
open_step notes (x ∷ xs) zero zero way next is covered = absurd (omega arith)
open_step notes (x ∷ xs) zero (suc zero) way next is covered = let same : x ≡ invariant_of way = cc in rw (same, covered) refl
open_step notes (x ∷ xs) zero (suc (suc more)) way next is covered = absurd (omega arith)
open_step notes (x ∷ xs) (suc k) zero way next is covered = absurd (omega arith)
open_step notes (x ∷ xs) (suc k) (suc more) way next is covered = open_step notes xs k more way (omega arith) is covered

-- and the first that isn't is told
pub open_here : (notes : List (Point × AbstractState)) (ways : List Invariant) (k : ℕ) (way : Point × Abs) →
    slice_get ways k ≡ Some (invariant_of way) → covers point_cmp is_state_below notes way.0 (state_of way.1) ≡ false →
    first_open point_cmp is_state_below notes (map entry_of (drop k ways)) ≡ Some way.0
open_here notes [] k way is uncovered = absurd (cc)
open_here notes (x ∷ xs) zero way is uncovered = let same : x ≡ invariant_of way = cc in rw (same, uncovered) refl
open_here notes (x ∷ xs) (suc k) way is uncovered = open_here notes xs k way is uncovered

-- each place below the length has one
pub way_there : (ways : List Invariant) (k : ℕ) (got : Option (Point × Abs)) → option_map invariant_of got ≡ slice_get ways k → got ≡ None →
    length ways ≤ k
way_there [] k got gets none = omega arith
way_there (x ∷ xs) zero got gets none = let nothing : None ≡ Some x = ap (option_map invariant_of) (sym none) ∙ gets in absurd (cc)
way_there (x ∷ xs) (suc k) got gets none = omega (arith, way_there xs k got gets none)
