-- The registers are put, then the scratchpad, then the counts.
use Rattle.std.proofs.Common.{◌∙◌, ◌∷◌, []}
use Rattle.std.proofs.lemmas.Result.{err_from_is_err_and}
use Rattle.console_spec.specs.RunText.{regs_line, total_line}
use Rattle.chip_debug.specs.Carried.{scratchpad_lines}
use Rattle.chip_debug.proofs.PutLines.{puts_behind, puts_both, puts_cut, puts_one, puts_short, regs_some, total_some}
use Rattle.chip_debug.proofs.telling.put_regs.Goals as goal

pub returns-in_err-put : goal.returns-in_err-put
returns-in_err-put g c =
    let p = err_from_is_err_and c.from_residual.result c.from_residual.ensures.1 in
    rw p.1
    (puts_cut _ _ _ _ _ _ (c.as_bytes.ensures.value ∙ c.regs_line.ensures) (regs_some _) c.in_err-put.ensures.err)

pub returns-in_err-put_scratchpad : goal.returns-in_err-put_scratchpad
returns-in_err-put_scratchpad g c =
    let p = err_from_is_err_and c.from_residual-in_err-put_scratchpad.result c.from_residual-in_err-put_scratchpad.ensures.1 in
    let behind = puts_behind _ _ _ _ _ (regs_line c.args.regs.now) (scratchpad_lines c.args.regs.now)
    (c.as_bytes.ensures.value ∙ c.regs_line.ensures) c.in_ok-put.ensures.ok c.in_err-put_scratchpad.ensures in
    rw p.1
    (puts_short _ _ _ _ (regs_line c.args.regs.now ∷ scratchpad_lines c.args.regs.now)
    (total_line c.args.count c.args.phi ∷ []) behind)

pub returns : goal.returns
returns g c =
    puts_behind c.put-2.result _ _ _ _ _ _ (c.as_bytes.ensures.value ∙ c.regs_line.ensures) c.in_ok-put.ensures.ok
    (puts_both _ c.put-2.result _ _ _ (scratchpad_lines c.args.regs.now) (total_line c.args.count c.args.phi ∷ [])
    c.in_ok-put_scratchpad.ensures
    (puts_one c.put-2.result _ _ _ _ (c.as_bytes-2.ensures.value ∙ c.total_line.ensures) (total_some _ _) c.put-2.ensures.ok
    c.put-2.ensures.err))
