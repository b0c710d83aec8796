-- Runs by scripts, which are runs with free inputs: how they end over a closed and safe invariant map.
use Rattle.std.specs.Prelude.{◌≡◌, ℕ, ◌<◌, ◌⊎◌, Bool, List, map, Option, Some, None}
use Rattle.std.specs.List.{AllByRecursion}
use Rattle.f8_spec.specs.ChipState.{ChipView}
use Rattle.f8_spec.specs.Powers.{ArePowers}
use Rattle.f8_spec.specs.declared.chips.PowerOn.{PowerOn}
use Rattle.f8_spec.specs.BusArbitration.{seat_of}
use Rattle.console_spec.specs.FlatMemory.{fixed_byte}
use Rattle.console_spec.specs.Services.{Fault}
use Rattle.console_spec.specs.Run.{Position, Ending, Done, Unserved, position_after_reset, reset_fault}
use Rattle.console_spec.specs.Scripts.{Script}
use Rattle.console_spec.specs.Telling.{begun, played_by}
use Rattle.console_spec.specs.declared.At.{At}
use Rattle.abs_domain.specs.AbstractState.{AbstractState}
use Rattle.abs_domain.specs.declared.points.Point.{Point}
use Rattle.abs_step.specs.CartridgeAnalysis.{analysis}
use Rattle.abs_step.specs.MapView.{MapView}
use Rattle.abs_step.specs.ReachedStates.{HoldsFaultFreeStates}
use Rattle.console_spec.specs.FreeRuns.{HasByte, IsFreeStart, IsReached}
use Rattle.abs_step.specs.Soundness.{IsSafeMap, OnlyUndriven, GoesOn}

-- a script for some chips: what is told by address stays there in them, and all bytes are bytes
pub record IsScriptFor (bytes : ℕ → Option ℕ) (vs : List ChipView) (script : Script) : Type 0 where
  pub fixed : (at byte : ℕ) → at < 65536 → bytes at ≡ Some byte → fixed_byte vs at ≡ Some byte
  pub held : (at byte : ℕ) → at < 65536 → fixed_byte vs at ≡ Some byte → byte < 256
  pub power : script.power < 256
  pub events : AllByRecursion (λ (a : At). HasByte a.event) script.events

-- a run is done, or it stops at a fault of which a claim holds, at the position where it stops
abbrev pub EndsBy : (Position → Option Fault → Type 0) → Ending → Type 0
EndsBy claim e = (e.stop ≡ Done) ⊎ ((fault : Fault) × (e.stop ≡ Unserved fault) × claim e.position (Some fault))

pub record ScriptRunLaw : Type 0 where
  -- a run by a script begins, behind reset, in a position in which a run with free inputs may begin
  pub start : (bytes : ℕ → Option ℕ) (vs : List ChipView) (chain : List ℕ) (powers : List PowerOn) (script : Script) → ArePowers powers →
      IsScriptFor bytes vs script → IsFreeStart bytes (map seat_of vs) (position_after_reset (begun vs chain powers script))
  -- where the map is safe, nothing stops a run but a read at D0 that no chip answers
  pub sound : (m : MapView) (tracked : List ℕ) (notes : List (Point × AbstractState)) (vs : List ChipView)
      (chain : List ℕ) (powers : List PowerOn) (traced : Bool) (script : Script) →
      IsSafeMap m (map seat_of vs) tracked notes → ArePowers powers → IsScriptFor m.byte vs script →
      EndsBy (λ here fault. OnlyUndriven here.flat.state.flow.d0 fault) (played_by vs chain powers traced script).ending
  -- where it is free of faults too, nothing does
  pub fault_free : (m : MapView) (tracked : List ℕ) (notes : List (Point × AbstractState)) (vs : List ChipView)
      (chain : List ℕ) (powers : List PowerOn) (traced : Bool) (script : Script) →
      IsSafeMap m (map seat_of vs) tracked notes → HoldsFaultFreeStates (analysis m tracked) notes →
      ArePowers powers → IsScriptFor m.byte vs script → (played_by vs chain powers traced script).ending.stop ≡ Done

pub record FreeRunLaw : Type 0 where
  -- What is shown of every run with free inputs on the chips holds of a run by a script: where reset is served and each instruction goes on
  -- but for reads that no chip answers at D0, nothing else stops it.
  pub sound : (bytes : ℕ → Option ℕ) (vs : List ChipView) (chain : List ℕ) (powers : List PowerOn) (traced : Bool) (script : Script) →
      ArePowers powers → IsScriptFor bytes vs script →
      ((here : Position) → IsFreeStart bytes (map seat_of vs) here → reset_fault here ≡ None) →
      ((n : ℕ) (here : Position) → IsReached bytes (map seat_of vs) n here → GoesOn (OnlyUndriven here.flat.state.flow.d0) here) →
      EndsBy (λ here fault. OnlyUndriven here.flat.state.flow.d0 fault) (played_by vs chain powers traced script).ending
  -- and where each instruction is served, nothing does
  pub fault_free : (bytes : ℕ → Option ℕ) (vs : List ChipView) (chain : List ℕ) (powers : List PowerOn) (traced : Bool) (script : Script) →
      ArePowers powers → IsScriptFor bytes vs script →
      ((here : Position) → IsFreeStart bytes (map seat_of vs) here → reset_fault here ≡ None) →
      ((n : ℕ) (here : Position) → IsReached bytes (map seat_of vs) n here → GoesOn (λ fault. fault ≡ None) here) →
      (played_by vs chain powers traced script).ending.stop ≡ Done
