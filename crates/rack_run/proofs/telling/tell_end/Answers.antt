-- What is told of an instruction that is done.
use Rattle.std.proofs.Common.{ap, ◌∙◌}
use Rattle.std.proofs.lemmas.Result.{err_from_is_err_and}
use Rattle.pad_script.specs.Reading.{seen}
use Rattle.rack_run.specs.Progressing.{ProgressState}
use Rattle.rack_run.proofs.PutLaws.{puts_same}
use Rattle.rack_run.proofs.TellingTexts.{puts_as, puts_failed, end_screen, end_told}
use Rattle.rack_run.proofs.telling.tell_end.Goals as goal

pub returns-in_err-tell_turn-clause-puts : goal.returns-in_err-tell_turn-clause-puts
returns-in_err-tell_turn-clause-puts g c = λ x y keeps clocks writes.
    let p = err_from_is_err_and c.from_residual.result c.from_residual.ensures.1 in
    let screen = end_screen c.screen.result.now c.args.wrote c.args.progress.now x y
    (c.screen.ensures ∙ ap (λ (p : ProgressState). p.screen) c.step-fallen.ensures.after) keeps writes in
    let told =
    end_told c.args.detail
    (seen c.args.script.now) c.as_slice.result.now c.args.wrote c.step-fallen.result c.args.phi c.args.progress.now x y
    keeps clocks writes
    c.step-fallen.ensures.frame c.as_slice.ensures.frames in
    rw p.1 (puts_same _ _ _ _ _ told (puts_failed _ _ _ _ _ (c.in_err-tell_turn.ensures y.flat.state.writes screen)))

pub returns-clause-puts : goal.returns-clause-puts
returns-clause-puts g c = λ x y keeps clocks writes.
    let screen = end_screen c.screen.result.now c.args.wrote c.args.progress.now x y
    (c.screen.ensures ∙ ap (λ (p : ProgressState). p.screen) c.step-fallen.ensures.after) keeps writes in
    let told =
    end_told c.args.detail
    (seen c.args.script.now) c.as_slice.result.now c.args.wrote c.step-fallen.result c.args.phi c.args.progress.now x y
    keeps clocks writes
    c.step-fallen.ensures.frame c.as_slice.ensures.frames in
    puts_same _ _ _ _ _ told (puts_as _ _ _ _ _ (c.in_ok-tell_turn.ensures y.flat.state.writes screen))
