-- What the store answers, as a work sees it.
use Rattle.std.proofs.Common.{Err, ap, ◌∙◌}
use Rattle.loader.proofs.WorkLaws.{ask_failed, ask_long, ask_memory, failed_rose, long_stays, long_said, memory_stays}
use Rattle.loader.proofs.fetching.fetch.Goals as goal

pub returns-in-Err-Failed-clause-works : goal.returns-in-Err-Failed-clause-works
returns-in-Err-Failed-clause-works g c =
    let is = c.in-Err-Failed.is ∙ ap Err c.in-Err-Failed.field-0-is in
    let fetched = c.fetch.ensures.fetched in
    ask_failed _ _ c.args.purpose c.args.name.now c.args.limit c.fetch.result fetched
    (failed_rose _ _ _ is fetched.cause)

pub returns-in-Err-TooLong-clause-works : goal.returns-in-Err-TooLong-clause-works
returns-in-Err-TooLong-clause-works g c =
    let is = c.in-Err-TooLong.is ∙ ap Err c.in-Err-TooLong.field-0-is in
    let fetched = c.fetch.ensures.fetched in
    ask_long _ _ c.args.purpose c.args.name.now c.args.limit c.fetch.result fetched (long_stays _ _ _ is fetched.cause)
    (long_said _ _ is c.fetch.ensures.long)

pub returns-in-Err-Memory-clause-works : goal.returns-in-Err-Memory-clause-works
returns-in-Err-Memory-clause-works g c =
    let is = c.in-Err-Memory.is ∙ ap Err c.in-Err-Memory.field-0-is in
    let fetched = c.fetch.ensures.fetched in
    ask_memory _ _ c.args.purpose c.args.name.now c.args.limit c.fetch.result fetched (memory_stays _ _ _ is fetched.cause)
