-- What a verdict promises of a game on a rack, for every script.
use Rattle.std.specs.Prelude.{◌≡◌, ◌≢◌, ◌⊎◌, List, None, Result, Ok, Err}
use Rattle.f8_spec.specs.ChipState.{ChipState}
use Rattle.console_spec.specs.Run.{Done}
use Rattle.console_spec.specs.Telling.{Telling}
use Rattle.cart_data.specs.declared.cart.Cart.{Cart}
use Rattle.abs_step.specs.Soundness.{OnlyUndriven}
use Rattle.abs_step.specs.ScriptRuns.{EndsBy}
use Rattle.cart_checker.specs.Verdicts.{IsFaultFreeCart, IsSafeCart}
use Rattle.loader.specs.declared.refusals.Stop.{Stop}
use Rattle.loader.specs.Games.{Game}
use Rattle.channel_f.specs.Answers.{refusal, game_run}
use Rattle.channel_f.specs.SafeRuns.{HasNoPatches}
use Rattle.channel_f.specs.declared.manner.Manner.{Manner}
use Rattle.channel_f.specs.declared.status.Status.{Status}
use Rattle.channel_f.specs.declared.status.Status.TheVariants as status

-- What the verdict on a cartridge promises of a run.
pub record GoesWell (said : Status) (cart : Cart) (run : Telling) : Type 0 where
  -- where it is whole, every bus step is served and no opcode is reserved: the run is done, and the status says so unless the sink failed
  pub done : IsFaultFreeCart cart → run.ending.stop ≡ Done
  pub status : IsFaultFreeCart cart → (said ≡ status.Done) ⊎ (said ≡ status.Sink)
  -- where it is whole or agreed, nothing stops the run but a read at D0 that no chip answers
  pub agreed : IsSafeCart cart → EndsBy (λ here fault. OnlyUndriven here.flat.state.flow.d0 fault) run.ending

-- It promises this on every rack that has a place for the chips, and of whose chips none has other bytes in its ROM than are described.
abbrev pub KeepsVerdict : Status → Manner → Game → List ChipState → Type 0
KeepsVerdict said manner game rack =
    refusal game.cart.chips rack ≡ None → HasNoPatches game.cart.chips rack → said ≢ status.Memory → GoesWell said game.cart (game_run manner game rack)

-- where files gave no game, there is no run
abbrev pub IsSafeRun : Status → Manner → Result Game Stop → List ChipState → Type 0
IsSafeRun said manner (Ok game) rack = KeepsVerdict said manner game rack
IsSafeRun said manner (Err stop) rack = Unit {0}
