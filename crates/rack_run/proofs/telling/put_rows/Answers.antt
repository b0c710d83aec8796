-- A turn puts the next row; where that fails, a first part of all rows was put.
use Rattle.std.proofs.Common.{◌≡◌, ◌∙◌}
use Rattle.std.proofs.lemmas.Result.{err_from_is_err_and}
use Rattle.console_spec.specs.RunText.{picture_row}
use Rattle.rack_run.proofs.PutLaws.{so_far_more, so_far_all, so_far_cut, row_some}
use Rattle.rack_run.proofs.TellingTexts.{rows_more, rows_all}
use Rattle.rack_run.proofs.telling.put_rows.Goals as goal

pub loop-y-preserved : goal.loop-y-preserved
loop-y-preserved g c = record {
  so_far = λ ws screen.
      let line : c.as_bytes.result.now ≡ picture_row c.loop-y.y ws =
      c.as_bytes.ensures.value ∙ c.row_line.ensures.display ws screen in
      so_far_more _ _ _ _ _ _ _ (c.loop-y.invariant.so_far ws screen) (rows_more ws c.loop-y.y c.loop-y-test.true)
      (rw line at c.in_ok-put.ensures.ok);
}

pub returns : goal.returns
returns g c =
    λ ws screen. so_far_all _ _ _ _ _ (c.loop-y.invariant.so_far ws screen) (rows_all ws c.loop-y.y c.loop-y-test.false)

pub returns-in_err-put : goal.returns-in_err-put
returns-in_err-put g c = λ ws screen.
    let p = err_from_is_err_and c.from_residual.result c.from_residual.ensures.1 in
    let line : c.as_bytes.result.now ≡ picture_row c.loop-y.y ws =
    c.as_bytes.ensures.value ∙ c.row_line.ensures.display ws screen in
    rw p.1
    (so_far_cut _ _ _ _ _ _ _ _ (c.loop-y.invariant.so_far ws screen) (rows_more ws c.loop-y.y c.loop-y-test.true) (row_some _ _)
    (rw line at c.in_err-put.ensures.err))
