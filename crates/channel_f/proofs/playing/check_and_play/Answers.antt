-- The check, and the run behind its verdict.
use Rattle.std.proofs.Common.{inr}
use Rattle.loader.specs.Seen.{seen_game}
use Rattle.channel_f.proofs.Games.{judged_wanting}
use Rattle.channel_f.proofs.playing.check_and_play.Goals as goal

pub returns-in-Ok : goal.returns-in-Ok
returns-in-Ok g c = inr (record {
  right = record { verdict = c.in-Ok.verdict; is = c.in-Ok.ensures.verdict; carries = c.in-Ok.ensures.carries };
  bytes = c.in-Ok.ensures.bytes;
  reports = rw (← c.word.ensures) c.play_fitted.ensures.reports;
  on = rw (← c.word.ensures) c.play_fitted.ensures.rack;
})

pub returns-in-Err : goal.returns-in-Err
returns-in-Err g c = judged_wanting _ c.args.manner (seen_game c.args.game.now) c.args.chain _ _
