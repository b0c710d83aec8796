-- The rows so far are put.
use Rattle.std.proofs.Common.{drop}
use Rattle.console_spec.specs.RunText.{text_of}
use Rattle.outside.proofs.SinkLaws.{PutSoFar}
use Rattle.chip_debug.specs.Carried.{scratchpad_lines}
use Rattle.chip_debug.proofs.telling.put_scratchpad.Given as goal

abbrev pub invariant-loop-row : goal.invariant-loop-row
invariant-loop-row g l = record {
  so_far : PutSoFar (g.K.Sink.output l.fn.sink) (g.K.Sink.output l.sink) (text_of (scratchpad_lines l.regs))
      (text_of (drop l.row (scratchpad_lines l.regs)));
}
