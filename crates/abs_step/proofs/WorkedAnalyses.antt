-- The analysis of cartridges that were worked out by hand: what is reached in it, and what is answered there.
use Rattle.std.proofs.Common.{◌≡◌, [], ◌∷◌, refl, arith}
use Rattle.std.specs.Prelude.{Ok}
use Rattle.f8_spec.specs.Instructions.{decoded}
use Rattle.abs_domain.specs.declared.points.Point.{Point}
use Rattle.abs_domain.specs.declared.reason.Reason.TheVariants.{CodeNotHeldOnce}
use Rattle.abs_step.specs.KnownResults.{known_effect, register_writes}
use Rattle.abs_step.specs.MapView.{chips_view}
use Rattle.abs_step.specs.Successors.{start_point, start_state, successors}
use Rattle.abs_step.specs.Safety.{unsafe_reason, reasons}
use Rattle.abs_step.specs.ReachedStates.{Reached, start, next, ReachesUnsafe}
use Rattle.abs_step.specs.CartridgeAnalysis.{answer_at, analysis}
use Rattle.abs_step.proofs.WorkedSteps.{psu}

-- ---- without chips the start is unsafe, since nobody holds the address 0

no_chips : ReachesUnsafe (analysis (chips_view []) []) start_point start_state CodeNotHeldOnce
unfolding decoded known_effect register_writes successors unsafe_reason reasons chips_view
no_chips = record { reached = start; unsafe = refl }

-- ---- NOP in the first byte of a 3851: the state of the start is reached at the second byte too

abbrev second_point : Point
second_point = record start_point { at = 1 }

nop : answer_at (chips_view (psu 0 4 (0x2B ∷ []) ∷ [])) [] (record { point = start_point; state = start_state })
    ≡ Ok ((second_point, start_state) ∷ [])
unfolding decoded known_effect register_writes successors unsafe_reason reasons chips_view
nop = refl

behind_nop : Reached (analysis (chips_view (psu 0 4 (0x2B ∷ []) ∷ [])) []) second_point start_state
behind_nop = next start nop (0, omega arith, refl)
