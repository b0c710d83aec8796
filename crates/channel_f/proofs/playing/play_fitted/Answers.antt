-- The opening lines, the run and the closing lines, of which the sink may fail at each.
use Rattle.loader.specs.Seen.{seen_game}
use Rattle.channel_f.proofs.Games.{reports_not_begun, reports_cut, reports_run, on_not_begun, on_cut, on_run}
use Rattle.channel_f.proofs.playing.play_fitted.Goals as goal

pub returns-in_default-clause-reports : goal.returns-in_default-clause-reports
returns-in_default-clause-reports g c =
    reports_not_begun c.args.manner c.args.word (seen_game c.args.game.now) c.args.chain _ _ _ _ c.in_default.ensures.err

pub returns-in_default-clause-rack : goal.returns-in_default-clause-rack
returns-in_default-clause-rack g c =
    on_not_begun c.args.manner c.args.word (seen_game c.args.game.now) c.args.chain _ _ _ _ c.in_default.ensures.err

pub returns-in-Ok-play-clause-reports : goal.returns-in-Ok-play-clause-reports
returns-in-Ok-play-clause-reports g c =
    reports_run c.args.manner c.args.word (seen_game c.args.game.now) c.args.chain _ c.in-Ok-play.ending _ _ _ _ _ _
    c.in-Ok.ensures.ok (rw c.detail-detail.ensures at c.in-Ok-play.ensures.plays) c.put_closing.ensures

pub returns-in-Ok-play-clause-rack : goal.returns-in-Ok-play-clause-rack
returns-in-Ok-play-clause-rack g c =
    on_run c.args.manner c.args.word (seen_game c.args.game.now) c.args.chain _ c.in-Ok-play.ending _ _ _ _ _ _
    c.in-Ok.ensures.ok (rw c.detail-detail.ensures at c.in-Ok-play.ensures.plays) c.put_closing.ensures _ _
    (rw c.detail-detail.ensures at c.in-Ok-play.ensures.asked)

pub returns-in-Err-clause-reports : goal.returns-in-Err-clause-reports
returns-in-Err-clause-reports g c =
    reports_cut c.args.manner c.args.word (seen_game c.args.game.now) c.args.chain _ _ _ _ _ _ _ c.in-Ok.ensures.ok
    (rw c.detail-detail.ensures at c.in-Err.ensures.failed)

pub returns-in-Err-clause-rack : goal.returns-in-Err-clause-rack
returns-in-Err-clause-rack g c =
    on_cut c.args.manner c.args.word (seen_game c.args.game.now) c.args.chain _ _ _ _ _ _ _ c.in-Ok.ensures.ok
    (rw c.detail-detail.ensures at c.in-Err.ensures.failed)
