-- The analysis of a cartridge: abstract states at points, over what is known of the chips; and that it meets the laws of an analysis.
use Rattle.std.specs.Prelude.{◌≡◌, ℕ, ◌<◌, List, [], map, Option, Some, None, Result, Ok, Err}
use Rattle.std.specs.Option.{ForSome}
use Rattle.f8_spec.specs.BusArbitration.{Seat}
use Rattle.f8_spec.specs.declared.instructions.Op.{Op}
use Rattle.console_spec.specs.FreeRuns.{AreBytes}
use Rattle.memory_map.specs.MapOf.{MapTable}
use Rattle.abs_domain.specs.AbstractState.{AbstractState, HasScratchpad}
use Rattle.abs_domain.specs.Joins.{joined_state, is_state_below, rank}
use Rattle.abs_domain.specs.PointOrder.{point_cmp}
use Rattle.abs_domain.specs.declared.points.Point.{Point}
use Rattle.abs_domain.specs.declared.reason.Reason.{Reason}
use Rattle.abs_step.specs.RegisterWrites.{known_register}
use Rattle.abs_step.specs.MapView.{MapView, IsViewOf, view_of}
use Rattle.abs_step.specs.Successors.{Invariant, HasTrackedBytes, start_point, start_state, successors}
use Rattle.abs_step.specs.Safety.{op_at, unsafe_reason, is_fault_free}
use Rattle.abs_step.specs.Analysis.{Analysis, AnalysisLaws}

-- ---- states that fit a point

-- what is known to be a byte, a digit or an address is one
pub record IsWithinRange (s : AbstractState) : Type 0 where
  pub accumulator : ForSome s.registers.accumulator (λ byte. byte < 256)
  pub high : ForSome s.registers.high (λ digit. digit < 8)
  pub low : ForSome s.registers.low (λ digit. digit < 8)
  pub scratchpad : (number : ℕ) → ForSome (known_register number s.registers) (λ byte. byte < 256)
  pub d0 : ForSome s.counters.d0 (λ at. at < 65536)
  pub d1 : ForSome s.counters.d1 (λ at. at < 65536)
  pub c : ForSome s.counters.c (λ at. at < 65536)

-- The point has what the state knows of the tracked registers. The scratchpad is whole, and all is within its range.
pub record FitsPoint (tracked : List ℕ) (p : Point) (s : AbstractState) : Type 0 where
  pub split : HasTrackedBytes tracked (record { point = p; state = s })
  pub scratchpad : HasScratchpad s
  pub range : IsWithinRange s
  pub at : p.at < 65536
  pub ret : ForSome p.ret (λ at. at < 65536)

-- ---- the analysis

abbrev pub entry_of : Invariant → Point × AbstractState
entry_of x = (x.point, x.state)

abbrev pub as_invariant : Point × AbstractState → Invariant
as_invariant e = record { point = e.0; state = e.1 }

-- what holds next, by the reason against a state and by its instruction; a safe state has one
abbrev pub answer_by : Option Reason → Option Op → MapView → List ℕ → Invariant → Result (List (Point × AbstractState)) Reason
answer_by (Some reason) op m tracked x = Err reason
answer_by None None m tracked x = Ok []
answer_by None (Some op) m tracked x = Ok (map entry_of (successors op m tracked x))

abbrev pub answer_at : MapView → List ℕ → Invariant → Result (List (Point × AbstractState)) Reason
answer_at m tracked x = answer_by (unsafe_reason m tracked x) (op_at m x) m tracked x

abbrev pub analysis : MapView → List ℕ → Analysis Point AbstractState
analysis m tracked = record {
  order = point_cmp;
  below = is_state_below;
  join = joined_state;
  start_point = start_point;
  start_state = start_state;
  next = λ p s. answer_at m tracked (record { point = p; state = s });
  is_fault_free = λ p s. is_fault_free m (record { point = p; state = s });
  fits = FitsPoint tracked;
  rank = rank;
}

-- ---- the law

-- the bytes that stay in the chips are bytes
abbrev pub TellsBytes : MapView → Type 0
TellsBytes m = (at byte : ℕ) → m.byte at ≡ Some byte → byte < 256

pub record AnalysisLaw : Type 0 where
  -- over what is right of some chips the analysis meets its laws
  pub laws : (m : MapView) (seats : List Seat) (tracked : List ℕ) → IsViewOf m seats → TellsBytes m → AnalysisLaws (analysis m tracked)
  -- a map of bytes tells bytes
  pub bytes : (m : MapTable) → AreBytes m.bytes → TellsBytes (view_of m)
