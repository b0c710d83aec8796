-- A turn puts the next line; where that fails, a first part of all lines was put.
use Rattle.std.proofs.Common.{◌≤◌, arith, length}
use Rattle.std.proofs.lemmas.Result.{err_from_is_err_and}
use Rattle.outside.proofs.SinkLaws.{put_so_far_none, put_so_far_more, put_so_far_all, put_so_far_part}
use Rattle.report.proofs.TextLaws.{text_of-drop, text_of-drop_all}
use Rattle.channel_f.proofs.lines_out.put_all.Goals as goal

pub loop-line-init : goal.loop-line-init
loop-line-init g c = put_so_far_none _ _

pub loop-line-preserved : goal.loop-line-preserved
loop-line-preserved g c =
    let next = text_of-drop _ c.loop-line.line-index c.line-item.result c.loop-line-test.true c.line-item.is in
    put_so_far_more _ _ _ _ c.line-item.result _ (rw next at c.loop-line.invariant)
    (rw c.as_bytes.ensures.value at c.in_ok-put.ensures.ok)

pub returns-in_err-put-clause-err : goal.returns-in_err-put-clause-err
returns-in_err-put-clause-err g c =
    let p = err_from_is_err_and c.from_residual.result c.from_residual.ensures.1 in
    let next = text_of-drop _ c.loop-line.line-index c.line-item.result c.loop-line-test.true c.line-item.is in
    rw p.1
    (put_so_far_part _ _ _ _ c.line-item.result _ (rw next at c.loop-line.invariant) (rw c.as_bytes.ensures.value at c.in_err-put.ensures.err))

pub returns-clause-ok : goal.returns-clause-ok
returns-clause-ok g c =
    let past : length c.args.lines.now ≤ c.loop-line.line-index = omega arith in
    put_so_far_all _ _ _ (rw (text_of-drop_all _ _ past) at c.loop-line.invariant)
