use Rattle.std.proofs.Common.{refl}
use Rattle.cartridge.proofs.RunTexts.{text_left_out, text_added, text_seen}
use Rattle.cartridge.proofs.run_text.run_texts.Goals.{then-run-gt0+in_ok-run_text+in_ok-push, else-run-gt0}
use Rattle.cartridge.proofs.run_text.run_texts.Goals as goal

pub loop-run-preserved : goal.loop-run-preserved
loop-run-preserved c =
    elim c.if-run-gt0.branch [
      | then-run-gt0+in_ok-run_text+in_ok-push w ↦
          text_added c.args.runs.now c.loop-run.run-index _ c.loop-run.texts.items c.if-run-gt0.texts.items _ c.loop-run-test.true c.loop-run.invariant
          w.if-run-gt0.true (text_seen w.in_ok-run_text.field-0 _ w.in_ok-run_text.ensures) (rw w.texts-is w.in_ok-push.ensures.items)
      | else-run-gt0 w ↦
          text_left_out c.args.runs.now c.loop-run.run-index _ c.loop-run.texts.items c.if-run-gt0.texts.items c.loop-run-test.true c.loop-run.invariant
          w.if-run-gt0.false (rw w.texts-is refl)
    ]
