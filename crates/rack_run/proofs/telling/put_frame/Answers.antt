-- The line of a frame, and its rows behind it.
use Rattle.std.proofs.Common.{◌≡◌, ◌∙◌, ap, ℕ}
use Rattle.std.proofs.lemmas.Result.{err_from_is_err_and}
use Rattle.console_spec.specs.Display.{tone_of}
use Rattle.console_spec.specs.RunText.{frame_line}
use Rattle.rack_run.proofs.PutLaws.{puts_same, frame_some}
use Rattle.rack_run.proofs.TellingTexts.{frame_text, puts_ahead, puts_cut}
use Rattle.rack_run.proofs.telling.put_frame.Goals as goal

pub returns : goal.returns
returns g c = λ ws screen.
    let line : c.as_bytes.result.now ≡ frame_line c.args.frame c.args.phi (tone_of ws) =
    c.as_bytes.ensures.value ∙ c.frame_line.ensures
    ∙ ap (λ (tone : ℕ). frame_line c.args.frame c.args.phi tone) (c.tone.ensures.display ws screen) in
    puts_same _ _ _ _ _ (frame_text c.args.frame c.args.phi ws)
    (puts_ahead _ _ _ _ _ _ _ line c.in_ok-put.ensures.ok (c.put_rows.ensures ws screen))

pub returns-in_err-put : goal.returns-in_err-put
returns-in_err-put g c = λ ws screen.
    let p = err_from_is_err_and c.from_residual.result c.from_residual.ensures.1 in
    let line : c.as_bytes.result.now ≡ frame_line c.args.frame c.args.phi (tone_of ws) =
    c.as_bytes.ensures.value ∙ c.frame_line.ensures
    ∙ ap (λ (tone : ℕ). frame_line c.args.frame c.args.phi tone) (c.tone.ensures.display ws screen) in
    rw p.1 (puts_same _ _ _ _ _ (frame_text c.args.frame c.args.phi ws)
    (puts_cut _ _ _ _ _ _ line (frame_some _ _ _) c.in_err-put.ensures.err))
