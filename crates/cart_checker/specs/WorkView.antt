-- The work of a search as the program holds it, why it stops before its end, and the verdict on what it found.
use Rattle.std.specs.Prelude.{◌≡◌, ℕ, ◌+◌, ◌≤◌, Bool, true, false, cond, List, length, None, Result, Ok, Err}
use Rattle.std.specs.List.{list_all}
use Rattle.std.specs.BTreeMap.{is_at}
use Rattle.memory_map.specs.MapOf.{MapTable}
use Rattle.abs_domain.specs.AbstractState.{AbstractState}
use Rattle.abs_domain.specs.StateView.{state_of}
use Rattle.abs_domain.specs.PointOrder.{point_cmp}
use Rattle.abs_domain.specs.declared.points.Point.{Point}
use Rattle.abs_step.specs.StatesAtPoints.{states_of}
use Rattle.abs_step.specs.MapView.{MapView, view_of}
use Rattle.abs_step.specs.Safety.{is_fault_free}
use Rattle.abs_step.specs.Analysis.{Analysis}
use Rattle.abs_step.specs.CartridgeAnalysis.{as_invariant, analysis}
use Rattle.abs_step.specs.ReachedStates.{ReachesUnsafe, ReachesTooMany}
use Rattle.cart_checker.specs.Worklists.{Work, state_by, is_due}
use Rattle.cart_checker.specs.declared.worklist.Worklist.{Worklist}
use Rattle.cart_checker.specs.declared.halt.Halt.{Halt}
use Rattle.cart_checker.specs.declared.halt.Halt.TheVariants.{Memory, TooMany, Refused}
use Rattle.cart_checker.specs.declared.verdict.Verdict.{Verdict}
use Rattle.cart_checker.specs.declared.verdict.Verdict.TheVariants.{Whole, Agreed}
use Rattle.cart_checker.specs.declared.verdict.Verdict.TheVariants as found

abbrev pub work_of : Worklist → Work Point AbstractState
work_of w = record { notes = states_of w.notes.entries; due = w.due.keys }

-- a point is due, besides those that were
pub record IsMadeDue (old new : List Point) (q : Point) : Type 0 where
  pub due : (p : Point) → is_due point_cmp new p ≡ cond (is_at (point_cmp q) p) true (is_due point_cmp old p)
  pub longer : length new ≤ length old + 1

-- the work is full, and has no state at the point
abbrev pub IsFullFor : Work Point AbstractState → Point → Type 0
IsFullFor w q = (65536 ≤ length w.notes) × (state_by point_cmp w.notes q ≡ None)

-- A state is added in vain where there is no room for its point, or for want of memory, which isn't told where there is no room.
abbrev pub AddHalts : Work Point AbstractState → Point → Halt → Type 0
AddHalts w q Memory = IsFullFor w q → ⊥
AddHalts w q TooMany = IsFullFor w q
AddHalts w q (Refused p s reason) = ⊥

-- what shows that there is no closed and safe map, where it isn't want of memory
abbrev pub Shows : Analysis Point AbstractState → Halt → Type 0
Shows an Memory = Unit {0}
Shows an TooMany = ReachesTooMany an
Shows an (Refused p s reason) = ReachesUnsafe an p (state_of s) reason

-- the analysis by what a map tells
abbrev pub map_analysis : MapTable → List ℕ → Analysis Point AbstractState
map_analysis m tracked = analysis (view_of m) tracked

-- ---- the verdict on what is found

-- whether each state is free of faults at its point
abbrev pub are_fault_free : MapView → List (Point × AbstractState) → Bool
are_fault_free m notes = list_all (λ e. is_fault_free m (as_invariant e)) notes

-- that on the least map, by whether it is free of faults
abbrev pub map_verdict : Bool → List (Point × AbstractState) → Verdict
map_verdict true notes = Whole notes
map_verdict false notes = Agreed notes

-- it tells what a search found, which isn't want of memory
abbrev pub IsVerdictOn : MapView → Result (List (Point × AbstractState)) Halt → Verdict → Type 0
IsVerdictOn m (Ok notes) verdict = verdict ≡ map_verdict (are_fault_free m notes) notes
IsVerdictOn m (Err (Refused p s reason)) verdict = verdict ≡ found.Refused p s reason
IsVerdictOn m (Err TooMany) verdict = verdict ≡ found.TooMany
IsVerdictOn m (Err Memory) verdict = ⊥
