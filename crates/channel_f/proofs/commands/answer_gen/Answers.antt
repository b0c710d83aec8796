-- The game is the generated one; and memory was wanting before the rack was looked at.
use Rattle.std.proofs.Common.{◌≡◌, List, subst}
use Rattle.f8_spec.specs.ChipState.{ChipState}
use Rattle.loader.specs.Games.{Game}
use Rattle.channel_f.specs.Answers.{generated_game}
use Rattle.channel_f.specs.SafeGames.{KeepsVerdict}
use Rattle.channel_f.specs.declared.manner.Manner.{Manner}
use Rattle.channel_f.specs.declared.manner.Manner.TheVariants.{Summary}
use Rattle.channel_f.specs.declared.status.Status.{Status}
use Rattle.channel_f.proofs.Games.{game_wanting}
use Rattle.channel_f.proofs.commands.answer_gen.Goals as goal

keeps_same : (said : Status) (manner : Manner) (rack : List ChipState) (game other : Game) → game ≡ other →
    KeepsVerdict said manner game rack → KeepsVerdict said manner other rack
keeps_same said manner rack game other same keeps = subst (λ (it : Game). KeepsVerdict said manner it rack) same keeps

pub returns-in-Ok-clause-safe : goal.returns-in-Ok-clause-safe
returns-in-Ok-clause-safe g c =
    keeps_same _ (Summary c.args.seed) _ _ (generated_game c.args.seed) c.in-Ok.ensures.game c.play_game.ensures.safe

pub returns-in-Err-clause-rack : goal.returns-in-Err-clause-rack
returns-in-Err-clause-rack g c = game_wanting _ (Summary c.args.seed) (generated_game c.args.seed) _ _
