-- A session that stepped back is one that never went further: a fresh session on the same chips, given the power-on, the events and the
-- instructions that stay, and the breaks, is at the same scene. So each later command tells the same and leads to the same (this project's
-- own).
use Rattle.std.specs.Prelude.{◌≡◌, ℕ, Bool, true, false, List, [], ◌∷◌, ◌++◌, Option, Some, None}
use Rattle.f8_spec.specs.ChipState.{ChipView}
use Rattle.f8_spec.specs.declared.chips.PowerOn.{PowerOn}
use Rattle.console_spec.specs.declared.Event.TheVariants.{Keys as KeysEvent, Pulse as PulseEvent}
use Rattle.rewind.specs.declared.entry.Entry.{Entry}
use Rattle.rewind.specs.declared.entry.Entry.TheVariants.{Happens, Instruction}
use Rattle.chip_debug.specs.Carried.{scene_after, scene_by, scene_on, told_by}
use Rattle.chip_debug.specs.Scenes.{Scene}
use Rattle.chip_debug.specs.declared.breaks.Breaks.{Breaks}
use Rattle.chip_debug.specs.declared.command.Command.{Command}
use Rattle.chip_debug.specs.declared.command.Command.TheVariants.{Power, Keys, Pulse, Step, Run, BreakAt, BreakRomc}
use Rattle.chip_debug.specs.declared.command.Command.TheVariants.{BreakChip, BreakApart, Clear, ShowRegs, ShowChips, Mem}
use Rattle.chip_debug.specs.declared.command.Command.TheVariants.{Back, BackRun, Stored}

-- a command steps back
abbrev pub StepsBack : Command → Type 0
StepsBack (Power fill) = ⊥
StepsBack (Keys port byte) = ⊥
StepsBack (Pulse chip) = ⊥
StepsBack (Step count) = ⊥
StepsBack (Run count) = ⊥
StepsBack (BreakAt at) = ⊥
StepsBack (BreakRomc romc) = ⊥
StepsBack (BreakChip socket) = ⊥
StepsBack BreakApart = ⊥
StepsBack Clear = ⊥
StepsBack ShowRegs = ⊥
StepsBack ShowChips = ⊥
StepsBack (Mem at count) = ⊥
StepsBack (Back count) = Unit {0}
StepsBack (BackRun count) = Unit {0}
StepsBack (Stored at) = ⊥

-- ---- the commands of a fresh session

-- the command of an entry
abbrev pub again : Entry → Command
again (Happens (KeysEvent port byte)) = Keys port byte
again (Happens (PulseEvent chip)) = Pulse chip
again Instruction = Step 1

abbrev pub all_again : List Entry → List Command
all_again [] = []
all_again (entry ∷ later) = again entry ∷ all_again later

-- the command that sets a break of a kind, if there is one
abbrev pub setting : (ℕ → Command) → Option ℕ → List Command
setting command None = []
setting command (Some number) = command number ∷ []

abbrev pub setting_apart : Bool → List Command
setting_apart true = BreakApart ∷ []
setting_apart false = []

-- those that set some breaks
abbrev pub all_set : Breaks → List Command
all_set breaks =
    setting BreakAt breaks.at ++ setting BreakRomc breaks.romc ++ setting BreakChip breaks.chip ++ setting_apart breaks.apart

-- the commands that lead a fresh session to a scene: power-on, its entries, and its breaks
abbrev pub fresh : Scene → List Command
fresh s = Power s.fill ∷ all_again s.entries ++ all_set s.breaks

-- ---- the law

pub record SteppingBackLaw : Type 0 where
  -- whatever commands went before
  pub scene : (chain : List ℕ) (powers : List PowerOn) (vs : List ChipView) (commands : List Command) (back : Command) → StepsBack back →
      scene_by (fresh (scene_after back (scene_by commands (scene_on chain powers vs)))) (scene_on chain powers vs)
      ≡ scene_after back (scene_by commands (scene_on chain powers vs))
  -- and whatever commands follow
  pub told : (chain : List ℕ) (powers : List PowerOn) (vs : List ChipView) (commands : List Command) (back : Command) →
      StepsBack back → (later : List Command) →
      told_by later (scene_by (fresh (scene_after back (scene_by commands (scene_on chain powers vs)))) (scene_on chain powers vs))
      ≡ told_by later (scene_after back (scene_by commands (scene_on chain powers vs)))
