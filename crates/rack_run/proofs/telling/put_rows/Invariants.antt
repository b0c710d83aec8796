-- The rows so far are put, and no fault was met.
use Rattle.std.proofs.Common.{◌≡◌, drop, List}
use Rattle.console_spec.specs.RunText.{text_of}
use Rattle.console_spec.specs.declared.PortWrite.{PortWrite}
use Rattle.video.specs.ScreenState.{screen_after}
use Rattle.rack_run.specs.Texts.{rows_told}
use Rattle.outside.proofs.SinkLaws.{PutSoFar}
use Rattle.rack_run.proofs.telling.put_rows.Given as goal

abbrev pub invariant-loop-y : goal.invariant-loop-y
invariant-loop-y g l = record {
  so_far : (ws : List PortWrite) → l.screen ≡ screen_after ws →
      PutSoFar (g.K.Sink.output l.fn.sink) (g.K.Sink.output l.sink)
      (text_of (rows_told ws)) (text_of (drop l.y (rows_told ws)));
}
