-- The lines so far are written, and no fault was met.
use Rattle.std.proofs.Common.{drop}
use Rattle.console_spec.specs.RunText.{text_of}
use Rattle.outside.proofs.SinkLaws.{PutSoFar}
use Rattle.channel_f.proofs.lines_out.put_all.Given as goal

abbrev pub invariant-loop-line : goal.invariant-loop-line
invariant-loop-line g l =
    PutSoFar (g.K.Sink.output l.fn.sink) (g.K.Sink.output l.sink) (text_of l.lines)
    (text_of (drop l.line-index l.lines))
