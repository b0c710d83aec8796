-- Runs of a script on a rack in which the chips of a description sit, where the checker's verdict on these chips is whole, or agreed.
use Rattle.std.specs.Prelude.{◌≡◌, ℕ, ◌<◌, Bool, List, map, None}
use Rattle.f8_spec.specs.ChipState.{ChipState}
use Rattle.f8_spec.specs.Powers.{ArePowers}
use Rattle.f8_spec.specs.declared.chips.PowerOn.{PowerOn}
use Rattle.console_spec.specs.Run.{Done}
use Rattle.console_spec.specs.Scripts.{Script}
use Rattle.console_spec.specs.Telling.{played_by}
use Rattle.pad_script.specs.Limits.{HaveBytes}
use Rattle.chip_face.specs.Fitting.{fitted}
use Rattle.chip_face.specs.declared.specification.ChipSpec.{ChipSpec}
use Rattle.rack_run.specs.Seating.{seated, kinds_of, fitted_views}
use Rattle.rack_run.specs.Sockets.{shortage_of}
use Rattle.abs_step.specs.CartridgeAnalysis.{TellsBytes, analysis}
use Rattle.abs_step.specs.MapView.{chips_view}
use Rattle.abs_step.specs.ReachedStates.{SomeIsSafe, SomeIsFaultFree}
use Rattle.abs_step.specs.ScriptRuns.{EndsBy}
use Rattle.abs_step.specs.Soundness.{OnlyUndriven}

-- No patch shows: fitting makes of the rack what it would make of it without any. So a patch at an address that is in no ROM page of its
-- chip, or with the byte that stands there, doesn't count.
abbrev pub HasNoPatches : List ChipSpec → List ChipState → Type 0
HasNoPatches chips states = fitted_views chips states ≡ map (fitted None) (seated chips states)

-- the byte of power-on and all key bytes are bytes
pub record HasScriptBytes (script : Script) : Type 0 where
  pub power : script.power < 256
  pub events : HaveBytes script.events

-- The rack has sockets for the chips described, which have their own bytes in it, and all bytes are bytes.
pub record IsAsDescribed (chips : List ChipSpec) (states : List ChipState) (script : Script) : Type 0 where
  pub bytes : TellsBytes (chips_view chips)
  pub enough : shortage_of chips (kinds_of states) ≡ None
  pub patches : HasNoPatches chips states
  pub script_bytes : HasScriptBytes script

pub record SafeRunLaw : Type 0 where
  -- where the chips have an invariant map that is closed, safe and free of faults, a run is done: nothing stops it
  pub done : (chips : List ChipSpec) (tracked : List ℕ) (states : List ChipState) (chain : List ℕ) (powers : List PowerOn) (traced : Bool)
      (script : Script) →
      IsAsDescribed chips states script → ArePowers powers → SomeIsFaultFree (analysis (chips_view chips) tracked) →
      (played_by (fitted_views chips states) chain powers traced script).ending.stop ≡ Done
  -- where they have one that is closed and safe, nothing stops it but a read at D0 that no chip answers
  pub undriven : (chips : List ChipSpec) (tracked : List ℕ) (states : List ChipState) (chain : List ℕ) (powers : List PowerOn) (traced : Bool)
      (script : Script) →
      IsAsDescribed chips states script → ArePowers powers → SomeIsSafe (analysis (chips_view chips) tracked) →
      EndsBy (λ here fault. OnlyUndriven here.flat.state.flow.d0 fault) (played_by (fitted_views chips states) chain powers traced script).ending
