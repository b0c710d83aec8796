-- First the lines of the bytes, and then those of the names.
use Rattle.std.proofs.lemmas.Result.{err_from_is_err_and, on_err_weaker, on_ok_weaker}
use Rattle.outside.proofs.SinkLaws.{adds_then, adds_part_first, adds_part_behind}
use Rattle.report.proofs.TextLaws.{text_of-append}
use Rattle.asm_lines.proofs.image_out.put_picture.Goals as goal

pub returns-in_err-put_bytes-clause-err : goal.returns-in_err-put_bytes-clause-err
returns-in_err-put_bytes-clause-err g c =
    let p = err_from_is_err_and c.from_residual.result c.from_residual.ensures.1 in
    rw (p.1, text_of-append) (adds_part_first _ _ _ _ c.in_err-put_bytes.ensures.err)

pub returns-clause-ok : goal.returns-clause-ok
returns-clause-ok g c =
    rw text_of-append
    (on_ok_weaker c.put_symbols.result
    (λ second. adds_then _ _ _ _ _ c.in_ok-put_bytes.ensures.ok second) c.put_symbols.ensures.ok)

pub returns-clause-err : goal.returns-clause-err
returns-clause-err g c =
    rw text_of-append
    (on_err_weaker c.put_symbols.result
    (λ second. adds_part_behind _ _ _ _ _ c.in_ok-put_bytes.ensures.ok second)
    c.put_symbols.ensures.err)
