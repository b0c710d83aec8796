-- What a closed and safe invariant map says of every run with free inputs.
use Rattle.std.proofs.Common.{◌≡◌, ℕ, List}
use Rattle.std.specs.Prelude.{Option, None}
use Rattle.f8_spec.specs.BusArbitration.{Seat}
use Rattle.console_spec.specs.FreeRuns.{IsFreeStart, IsReached}
use Rattle.console_spec.specs.Run.{Position, instruction_fault, reset_fault}
use Rattle.console_spec.specs.Services.{Fault}
use Rattle.abs_domain.specs.AbstractState.{AbstractState}
use Rattle.abs_domain.specs.declared.points.Point.{Point}
use Rattle.abs_step.specs.MapView.{MapView}
use Rattle.abs_step.specs.CartridgeAnalysis.{analysis}
use Rattle.abs_step.specs.ReachedStates.{HoldsFaultFreeStates}
use Rattle.abs_step.specs.Soundness.{IsSafeMap, OnlyUndriven, GoesOn, SoundnessLaw}
use Rattle.abs_step.proofs.Standing.{opcode_told}
use Rattle.abs_step.proofs.OneInstruction.{reset_served, only_undriven, all_served}
use Rattle.abs_step.proofs.Runs.{Stands, at_start, after_stands, reached_stands}

module _ (m : MapView) (seats : List Seat) (tracked : List ℕ) (notes : List (Point × AbstractState))
    (map_safe : IsSafeMap m seats tracked notes) where
  reset_goes : (here : Position) → IsFreeStart m.byte seats here → reset_fault here ≡ None
  reset_goes here h =
      let s = at_start m seats tracked notes map_safe here h in
      reset_served m tracked s.note s.op here s.safe seats h

  -- where some invariant of the map stands an instruction does, and a claim that holds of its fault goes with it
  goes_on : (claim : Option Fault → Type 0) (here : Position) (s : Stands m seats tracked notes here) → claim (instruction_fault s.op here) →
      GoesOn claim here
  goes_on claim here s fault = record { op = s.op; is = opcode_told m s.note here s.op s.safe.beside s.safe.state.is; fault = fault }

  undriven_only : (n : ℕ) (here : Position) → IsReached m.byte seats n here → GoesOn (OnlyUndriven here.flat.state.flow.d0) here
  undriven_only n here h =
      let s = reached_stands m seats tracked notes map_safe n here h in
      let later = after_stands m seats tracked notes map_safe here s in
      goes_on (OnlyUndriven here.flat.state.flow.d0) here s (only_undriven m tracked s.note s.op here s.safe later.note later.op later.safe)

  each_served : HoldsFaultFreeStates (analysis m tracked) notes → (n : ℕ) (here : Position) → IsReached m.byte seats n here →
      GoesOn (λ fault. fault ≡ None) here
  each_served free n here h =
      let s = reached_stands m seats tracked notes map_safe n here h in
      let later = after_stands m seats tracked notes map_safe here s in
      goes_on (λ fault. fault ≡ None) here s
      (all_served m tracked s.note s.op here s.safe later.note later.op later.safe (free s.note.point s.note.state s.noted))

pub soundness : SoundnessLaw
soundness = record {
  reset = λ m seats tracked notes safe here h. reset_goes m seats tracked notes safe here h;
  sound = λ m seats tracked notes safe n here h. undriven_only m seats tracked notes safe n here h;
  fault_free = λ m seats tracked notes safe free n here h. each_served m seats tracked notes safe free n here h;
}
