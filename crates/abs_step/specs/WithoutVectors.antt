-- The analysis that follows no vector: there a state is unsafe wherever an interrupt may be taken and some chip can interrupt. All that it
-- shows to be safe is safe with vectors too.
use Rattle.std.specs.Prelude.{◌≡◌, ℕ, Bool, true, false, ◌||◌, List, [], ◌∷◌, Some, None, Ok}
use Rattle.f8_spec.specs.Instructions.{decoded}
use Rattle.f8_spec.specs.declared.instructions.Op.{Op}
use Rattle.console_spec.specs.Run.{Position, gets_at, opcode_at}
use Rattle.memory_map.specs.MapKinds.{some_wired}
use Rattle.memory_map.specs.MapOf.{views_of}
use Rattle.chip_face.specs.declared.specification.ChipSpec.{ChipSpec}
use Rattle.abs_domain.specs.AbstractState.{AbstractState}
use Rattle.abs_domain.specs.declared.points.Point.{Point}
use Rattle.abs_step.specs.CartridgeAnalysis.{analysis}
use Rattle.abs_step.specs.MapView.{MapView, chips_view}
use Rattle.abs_step.specs.ReachedStates.{IsSafelyClosed}
use Rattle.abs_step.specs.Safety.{is_fault_free, unsafe_reason}
use Rattle.abs_step.specs.SoundSteps.{IsBeside}
use Rattle.abs_step.specs.Successors.{Invariant}

abbrev pub has_vectors : List ℕ → Bool
has_vectors [] = false
has_vectors (v ∷ vs) = true

-- each chip that can interrupt counts as one whose vector ports write
abbrev pub without_vectors : MapView → MapView
without_vectors m = record m { vectors = []; written = has_vectors m.vectors || m.written }

pub record WithoutVectorsLaw : Type 0 where
  -- such a chip is there where some chip can interrupt
  pub wired : (chips : List ChipSpec) → (without_vectors (chips_view chips)).written ≡ some_wired (views_of chips)
  -- where a state is safe without vectors it is safe with them, and the same holds next
  pub next : (m : MapView) (tracked : List ℕ) (p : Point) (s : AbstractState) (ways : List (Point × AbstractState)) →
      (analysis (without_vectors m) tracked).next p s ≡ Ok ways → (analysis m tracked).next p s ≡ Ok ways
  -- no interrupt is taken there
  pub untaken : (m : MapView) (tracked : List ℕ) (x : Invariant) (here : Position) (op : Op) →
      unsafe_reason (without_vectors m) tracked x ≡ None → IsBeside m x here → decoded (opcode_at here) ≡ Some op →
      (gets_at op here).chosen ≡ None
  -- it is as free of faults
  pub fault_free : (m : MapView) (x : Invariant) → is_fault_free (without_vectors m) x ≡ is_fault_free m x
  -- and a map that is closed and safe without them is so with them
  pub closed : (m : MapView) (tracked : List ℕ) (notes : List (Point × AbstractState)) →
      IsSafelyClosed (analysis (without_vectors m) tracked) notes → IsSafelyClosed (analysis m tracked) notes
