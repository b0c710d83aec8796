-- A turn puts the next row.
use Rattle.std.proofs.Common.{◌≡◌, ◌∙◌}
use Rattle.std.proofs.lemmas.Result.{err_from_is_err_and}
use Rattle.console_spec.specs.RunText.{scratch_line}
use Rattle.rack_run.proofs.PutLaws.{so_far_more, so_far_all, so_far_cut}
use Rattle.chip_debug.proofs.PutLines.{rows_more, rows_all, scratch_some}
use Rattle.chip_debug.proofs.telling.put_scratchpad.Goals as goal

pub loop-row-preserved : goal.loop-row-preserved
loop-row-preserved g c =
    let line : c.as_bytes.result.now ≡ scratch_line c.args.regs.now c.loop-row.row =
    c.as_bytes.ensures.value ∙ c.scratch_line.ensures in
    let lines = rw line at c.in_ok-put.ensures.ok in
    record {
      so_far = so_far_more _ _ _ _ _ _ _ c.loop-row.invariant.so_far
          (rows_more c.args.regs.now c.loop-row.row c.loop-row-test.true) lines;
    }

pub returns : goal.returns
returns g c =
    so_far_all _ _ _ _ _ c.loop-row.invariant.so_far (rows_all c.args.regs.now c.loop-row.row c.loop-row-test.false)

pub returns-in_err-put : goal.returns-in_err-put
returns-in_err-put g c =
    let p = err_from_is_err_and c.from_residual.result c.from_residual.ensures.1 in
    let line : c.as_bytes.result.now ≡ scratch_line c.args.regs.now c.loop-row.row =
    c.as_bytes.ensures.value ∙ c.scratch_line.ensures in
    rw p.1
    (so_far_cut _ _ _ _ _ _ _ _ c.loop-row.invariant.so_far
    (rows_more c.args.regs.now c.loop-row.row c.loop-row-test.true) (scratch_some _ _) (rw line at c.in_err-put.ensures.err))
