-- The line of the write, and the frame behind it.
use Rattle.std.proofs.Common.{sym}
use Rattle.std.proofs.lemmas.Result.{err_from_is_err_and}
use Rattle.rack_run.specs.Texts.{write_told, frame_told}
use Rattle.rack_run.proofs.PutLaws.{puts_same, puts_then, puts_first}
use Rattle.rack_run.proofs.ToldTexts.{text_in-append}
use Rattle.rack_run.proofs.telling.tell_turn.Goals as goal

pub returns : goal.returns
returns g c = λ ws screen.
    puts_same _ _ _ _ _
    (sym (text_in-append c.args.detail (write_told c.args.wrote) (frame_told c.args.shows.now c.args.fallen c.args.phi ws)))
    (puts_then _ _ _ _ _ _ _ c.in_ok-tell_write.ensures (c.tell_frame.ensures ws screen))

pub returns-in_err-tell_write : goal.returns-in_err-tell_write
returns-in_err-tell_write g c = λ ws screen.
    let p = err_from_is_err_and c.from_residual.result c.from_residual.ensures.1 in
    rw p.1
    (puts_same _ _ _ _ _ (sym (text_in-append c.args.detail (write_told c.args.wrote) (frame_told c.args.shows.now c.args.fallen c.args.phi ws)))
    (puts_first _ _ _ _ _ _ c.in_err-tell_write.ensures))
