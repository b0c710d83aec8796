-- What becomes of the rack in a session of the debugger: fitting, and then what the commands that were carried out make of the chips, whose
-- patches stay. And how many questions were put to its chips, which is this project's own: none where no session began.
use Rattle.std.specs.Prelude.{◌≡◌, ◌≢◌, ◌≤◌, ◌+◌, ◌⊎◌, ℕ, List, [], ◌∷◌, ◌++◌, Option, Some, None, Result, Ok, Err}
use Rattle.f8_spec.specs.ChipState.{ChipState}
use Rattle.console_spec.specs.RunText.{text_of}
use Rattle.chip_debug.specs.Asking.{session_allowed}
use Rattle.chip_debug.specs.Carried.{lines_of, scene_after, scene_by, told_by}
use Rattle.chip_debug.specs.Scenes.{Scene, reached}
use Rattle.chip_debug.specs.declared.command.Command.{Command}
use Rattle.data_bus.specs.Racks.{views}
use Rattle.outside.specs.SinkRules.{Output, Adds, AddsPart}
use Rattle.loader.specs.declared.games.Debugging.{Debugging}
use Rattle.loader.specs.declared.refusals.Stop.{Stop}
use Rattle.rack_run.specs.Seating.{seated, RackFits, RackFitsInPart}
use Rattle.rewind.specs.Standing.{HaveHeard, patches}
use Rattle.channel_f.specs.Answers.{debug_scene, refusal}
use Rattle.channel_f.specs.RackAfter.{Leaves}
use Rattle.channel_f.specs.declared.status.Status.{Status}
use Rattle.channel_f.specs.declared.status.Status.TheVariants as status

-- the chips are those of a scene, and each that tells what it heard since power-on heard the scene's bus steps and nothing else
pub record AreOf (scene : Scene) (states : List ChipState) : Type 0 where
  pub chips : views states ≡ (reached scene).chips
  pub heard : HaveHeard (reached scene).heard 0 states

-- The sink failed at a line of one of the commands. Those before it were told whole, and of its own lines, of which there are some, a first
-- part was written. The chips are those of the scene that it leads to, for it is carried out whole all the same; no command after it is. No
-- more was asked than is allowed for these commands.
pub record FailedAt (old new : Output) (commands : List Command) (scene : Scene) (news : List ChipState)
    (asked_before asked_after : ℕ) : Type 0 where
  pub before : List Command
  pub command : Command
  pub rest : List Command
  pub are : commands ≡ before ++ command ∷ rest
  pub between : Output
  pub told : Adds old between (text_of (told_by before scene))
  pub some : lines_of command (scene_by before scene) ≢ []
  pub part : AddsPart between new (text_of (lines_of command (scene_by before scene)))
  pub chips : AreOf (scene_after command (scene_by before scene)) news
  pub asks : asked_after ≤ asked_before + session_allowed (before ++ command ∷ []) scene

-- All commands were carried out unless the sink failed, and no more was asked than is allowed for them; and where memory was wanting, the
-- first chips may have been fitted, or all of them, and no more became of any. No chip's patch changes.
pub record Debugs (old new : Output) (said : Status) (asked : Debugging) (rack news : List ChipState) (before after : ℕ) : Type 0 where
  pub wanting : said ≡ status.Memory →
      RackFits (seated asked.cart.chips rack) rack news ⊎ RackFitsInPart (seated asked.cart.chips rack) rack news
  pub unasked : said ≡ status.Memory → after ≡ before
  pub patched : patches news ≡ patches rack
  pub whole : said ≢ status.Sink → said ≢ status.Memory → AreOf (scene_by asked.commands (debug_scene asked.cart rack)) news
  pub asks : said ≢ status.Sink → said ≢ status.Memory → after ≤ before + session_allowed asked.commands (debug_scene asked.cart rack)
  pub failed : said ≡ status.Sink → FailedAt old new asked.commands (debug_scene asked.cart rack) news before after

-- chips that are refused leave the rack as it was
abbrev pub DebugsUnless : Option (List ℕ) → Output → Output → Status → Debugging → (rack news : List ChipState) →
    (before after : ℕ) → Type 0
DebugsUnless (Some line) old new said asked rack news before after = Leaves rack news before after
DebugsUnless None old new said asked rack news before after = Debugs old new said asked rack news before after

-- and so do files that stop the command
abbrev pub RackDebugged : Output → Output → Status → Result Debugging Stop → (rack news : List ChipState) →
    (before after : ℕ) → Type 0
RackDebugged old new said (Ok asked) rack news before after =
    DebugsUnless (refusal asked.cart.chips rack) old new said asked rack news before after
RackDebugged old new said (Err stop) rack news before after = Leaves rack news before after
