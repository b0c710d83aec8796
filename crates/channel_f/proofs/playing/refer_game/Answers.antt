-- A run on the flat instruction set alone, with its closing lines, and one at whose line the sink failed.
use Rattle.loader.specs.Seen.{seen_game}
use Rattle.channel_f.proofs.Games.{answers_of, answers_stayed, status_not_memory, reports_flat, reports_flat_part}
use Rattle.channel_f.proofs.playing.refer_game.Goals as goal

pub returns-in-Ok : goal.returns-in-Ok
returns-in-Ok g c =
    answers_of _ _ _ _ _ (status_not_memory _)
    (reports_flat (seen_game c.args.game.now) c.in-Ok.ending _ _ _ _ c.in-Ok.ensures.refers c.put_ending.ensures)

pub returns-in-Err-Memory : goal.returns-in-Err-Memory
returns-in-Err-Memory g c =
    answers_stayed _ _ _ (rw c.in-Err-Memory.field-0-is at c.in-Err-Memory.ensures.failed)

pub returns-in-Err-Sink : goal.returns-in-Err-Sink
returns-in-Err-Sink g c =
    let failed = rw c.in-Err-Sink.field-0-is at c.in-Err-Sink.ensures.failed in
    answers_of _ _ _ _ _ (status_not_memory _) (reports_flat_part (seen_game c.args.game.now) _ _ _ failed)
