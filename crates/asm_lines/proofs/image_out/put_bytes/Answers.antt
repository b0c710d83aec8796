-- A turn puts the line of the first entries of the rest; where that fails, a first part of all lines was put.
use Rattle.std.proofs.Common.{arith}
use Rattle.std.proofs.lemmas.Result.{err_from_is_err_and}
use Rattle.std.proofs.lemmas.List.{nil_from_length}
use Rattle.outside.proofs.SinkLaws.{put_so_far_more, put_so_far_all, put_so_far_part}
use Rattle.asm_lines.proofs.RowLaws.{following_fits, text_row, text_no_row}
use Rattle.asm_lines.proofs.image_out.put_bytes.Goals as goal

pub split_at-requires : goal.split_at-requires
split_at-requires g c =
    omega (arith, c.row_length.ensures, following_fits c.in-Some.field-0-0.now.0 c.loop-first.rest.now)

pub loop-first-preserved : goal.loop-first-preserved
loop-first-preserved g c =
    let begins =
    text_row c.in-Some.field-0-0.now c.in-Some._others.now c.loop-first.rest.now c.row_length.result
    c.in-Some.ensures.cases.0 c.row_length.ensures in
    rw c.split_at.ensures.back
    (put_so_far_more _ _ _ _ _ _ (rw begins at c.loop-first.invariant)
    (rw (c.as_bytes.ensures.value, c.byte_line.ensures, c.split_at.ensures.front) at c.in_ok-put.ensures.ok))

pub returns-in_err-put-clause-err : goal.returns-in_err-put-clause-err
returns-in_err-put-clause-err g c =
    let p = err_from_is_err_and c.from_residual.result c.from_residual.ensures.1 in
    let begins =
    text_row c.in-Some.field-0-0.now c.in-Some._others.now c.loop-first.rest.now c.row_length.result
    c.in-Some.ensures.cases.0 c.row_length.ensures in
    rw p.1
    (put_so_far_part _ _ _ _ _ _ (rw begins at c.loop-first.invariant)
    (rw (c.as_bytes.ensures.value, c.byte_line.ensures, c.split_at.ensures.front) at c.in_err-put.ensures.err))

pub returns-clause-ok : goal.returns-clause-ok
returns-clause-ok g c =
    put_so_far_all _ _ _
    (rw (nil_from_length c.loop-first.rest.now c.in_default.ensures.cases, text_no_row) at c.loop-first.invariant)
