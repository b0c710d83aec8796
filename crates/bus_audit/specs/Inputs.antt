-- What becomes of a machine and its rack by inputs that come, one after another.
use Rattle.std.specs.Prelude.{◌≡◌, ℕ, ◌==◌, if◌then◌else◌, List, [], ◌∷◌, Option, Some, None}
use Rattle.f8_spec.specs.ChipState.{ChipState}
use Rattle.console_spec.specs.Run.{Position}
use Rattle.console_spec.specs.Scripts.{frames_by}
use Rattle.console_spec.specs.Telling.{with_events}
use Rattle.console_spec.specs.declared.Event.{Event}
use Rattle.f8_machine.specs.MachineState.{MachineState}
use Rattle.f8_machine.specs.Refinement.{IsPowered, Represents}
use Rattle.rack_run.specs.Lives.{Come}

abbrev pub events_in : Option Event → List Event
events_in None = []
events_in (Some event) = event ∷ []

-- They come to the chips, before reset and after it, and leave the chain, the clocks, the index and what the machine may do.
pub record Comes (old new : MachineState) (olds news : List ChipState) (events : List Event) : Type 0 where
  pub powered : (x : Position) → IsPowered old olds x → IsPowered new news (with_events events x)
  pub running : (x : Position) → Represents old olds x → Represents new news (with_events events x)
  pub came : Come old.chain events olds news
  pub chain : new.chain ≡ old.chain
  pub phi : new.phi ≡ old.phi
  pub index : new.index ≡ old.index
  pub mode : new.mode ≡ old.mode

-- the frame that falls between two counts of clocks, if one does
abbrev pub frame_between : ℕ → ℕ → Option ℕ
frame_between before after = if frames_by after == frames_by before then None else Some (frames_by after)
