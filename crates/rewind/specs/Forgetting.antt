-- Power-on forgets: what came to a chip since it was fitted makes no difference to what power-on makes of it, nor to where a machine is
-- after it (this project's own).
use Rattle.std.specs.Prelude.{◌≡◌, ℕ, List, Option}
use Rattle.f8_spec.specs.ChipState.{ChipView, ChipState, HeardStep, IsFilled, after_step, keyed, powered, pulsed}
use Rattle.f8_spec.specs.declared.chips.PowerOn.{PowerOn}
use Rattle.console_spec.specs.Run.{power_position}
use Rattle.data_bus.specs.Racks.{views}
use Rattle.f8_machine.specs.Keying.{RackKeyed}
use Rattle.f8_machine.specs.Refinement.{AreWhole}
use Rattle.f8_machine.specs.RequestsHeld.{RackPulsed}
use Rattle.f8_machine.specs.Rounds.{RackPowers, RackRuns}
use Rattle.f8_machine.specs.declared.heard.Heard.{Heard}
use Rattle.rewind.specs.PowerAlike.{PowersAlike, PowerAlike}

-- power-on forgets what has made a chip of another, and that has as many bytes for its pages
pub record IsForgotten (old new : ChipView) : Type 0 where
  pub alike : PowersAlike new old
  pub filled : IsFilled old → IsFilled new

-- ---- one chip

pub record ChipsForget : Type 0 where
  pub step : (step : HeardStep) (v : ChipView) → IsForgotten v (after_step step v)
  pub keys : (port byte : ℕ) (v : ChipView) → IsForgotten v (keyed port byte v)
  pub pulse : (v : ChipView) → IsForgotten v (pulsed v)
  -- a page of ROM keeps its bytes only where it has all of them
  pub power : (fill start : ℕ) (v : ChipView) → IsFilled v → IsForgotten v (powered fill start v)

-- ---- a rack

-- what a machine does to a rack is forgotten with the next power-on
pub record RacksForget : Type 0 where
  pub fitted : (states : List ChipState) → AreWhole states → PowerAlike (views states) (views states)
  pub steps : (steps : List Heard) (olds news : List ChipState) (first : List ChipView) → RackRuns steps olds news →
      PowerAlike (views olds) first → PowerAlike (views news) first
  pub keys : (port byte : ℕ) (olds news : List ChipState) (first : List ChipView) → RackKeyed port byte olds news →
      PowerAlike (views olds) first → PowerAlike (views news) first
  pub pulse : (chosen : Option ℕ) (olds news : List ChipState) (first : List ChipView) → RackPulsed chosen olds news →
      PowerAlike (views olds) first → PowerAlike (views news) first
  pub power : (fill : ℕ) (chain : List ℕ) (powers : List PowerOn) (olds news : List ChipState) (first : List ChipView) →
      RackPowers fill chain powers olds news → PowerAlike (views olds) first → PowerAlike (views news) first

-- ---- the law

pub record ForgettingLaw : Type 0 where
  pub chip : ChipsForget
  pub rack : RacksForget
  -- the position of power-on, and the chips at it, are those that power-on would make of the chips as they were at first
  pub position : (now first : List ChipView) → PowerAlike now first → (chain : List ℕ) (powers : List PowerOn) (fill : ℕ) →
      power_position now chain powers fill ≡ power_position first chain powers fill
  pub chips : (olds firsts news others : List ChipState) → PowerAlike (views olds) (views firsts) →
      (fill : ℕ) (chain : List ℕ) (powers : List PowerOn) → RackPowers fill chain powers olds news →
      RackPowers fill chain powers firsts others → views news ≡ views others
