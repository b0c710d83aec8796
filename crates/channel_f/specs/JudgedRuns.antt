-- A run on chips that are fitted for a game, behind the verdict on its cartridge.
use Rattle.std.specs.Prelude.{◌≡◌, ℕ, ◌⊎◌, List, []}
use Rattle.f8_spec.specs.ChipState.{ChipState}
use Rattle.abs_step.specs.CartridgeAnalysis.{TellsBytes}
use Rattle.abs_step.specs.MapView.{chips_view}
use Rattle.cart_checker.specs.Verdicts.{RightVerdict, verdict_word}
use Rattle.loader.specs.Games.{Game}
use Rattle.outside.specs.SinkRules.{Output, Adds}
use Rattle.channel_f.specs.Answers.{status_of}
use Rattle.channel_f.specs.Manners.{run_fitted, lines_by}
use Rattle.channel_f.specs.RackAfter.{OnFitted}
use Rattle.channel_f.specs.Reports.{Reports}
use Rattle.channel_f.specs.declared.manner.Manner.{Manner}
use Rattle.channel_f.specs.declared.status.Status.{Status}
use Rattle.channel_f.specs.declared.status.Status.TheVariants as status

-- memory was wanting before the first line
pub record CheckWants (old new : Output) (said : Status) (fitted news : List ChipState) (before after : ℕ) : Type 0 where
  pub status : said ≡ status.Memory
  pub nothing : Adds old new []
  pub same : news ≡ fitted
  pub unasked : after ≡ before

-- the run is told behind the right verdict
pub record RunsJudged (old new : Output) (said : Status) (manner : Manner) (game : Game) (chain : List ℕ)
    (fitted news : List ChipState) (before after : ℕ) : Type 0 where
  pub right : RightVerdict game.cart
  pub bytes : TellsBytes (chips_view game.cart.chips)
  pub reports : Reports old new said (status_of (run_fitted manner game chain fitted).ending.stop)
      (lines_by manner (verdict_word right.verdict) (run_fitted manner game chain fitted))
  pub on : OnFitted old new said manner (verdict_word right.verdict) game.script.power chain
      game.cart.powers (run_fitted manner game chain fitted) fitted news before after

abbrev pub PlaysJudged : Output → Output → Status → Manner → Game → List ℕ → (fitted news : List ChipState) →
    (before after : ℕ) → Type 0
PlaysJudged old new said manner game chain fitted news before after =
    CheckWants old new said fitted news before after
    ⊎ RunsJudged old new said manner game chain fitted news before after
