-- A turn puts the next line; where that fails, a first part of the text was put.
use Rattle.std.proofs.Common.{◌≡◌, ◌++◌}
use Rattle.std.proofs.lemmas.Result.{err_from_is_err_and}
use Rattle.std.proofs.lemmas.List.{take-append-drop}
use Rattle.outside.proofs.SinkLaws.{put_so_far_more, put_so_far_part}
use Rattle.asm_lines.proofs.listing_out.put_listing.Goals as goal

pub loop-rest-preserved : goal.loop-rest-preserved
loop-rest-preserved g c =
    let whole : c.split_at.result.0.now ++ c.split_at.result.1.now ≡ c.loop-rest.rest.now =
    rw (c.split_at.ensures.front, c.split_at.ensures.back)
    (take-append-drop c.first_line_length.result c.loop-rest.rest.now) in
    put_so_far_more _ _ _ _ c.split_at.result.0.now _ (rw (← whole) at c.loop-rest.invariant) c.in_ok-put.ensures.ok

pub returns-in_err-put-clause-err : goal.returns-in_err-put-clause-err
returns-in_err-put-clause-err g c =
    let p = err_from_is_err_and c.from_residual.result c.from_residual.ensures.1 in
    let whole : c.split_at.result.0.now ++ c.split_at.result.1.now ≡ c.loop-rest.rest.now =
    rw (c.split_at.ensures.front, c.split_at.ensures.back)
    (take-append-drop c.first_line_length.result c.loop-rest.rest.now) in
    rw p.1
    (put_so_far_part _ _ _ _ c.split_at.result.0.now _ (rw (← whole) at c.loop-rest.invariant) c.in_err-put.ensures.err)
