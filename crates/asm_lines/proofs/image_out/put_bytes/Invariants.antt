-- The lines of the entries before the rest are written, and no fault was met.
use Rattle.std.proofs.Common.{length}
use Rattle.console_spec.specs.RunText.{text_of}
use Rattle.outside.proofs.SinkLaws.{PutSoFar}
use Rattle.asm_lines.specs.ImageLines.{byte_lines}
use Rattle.asm_lines.proofs.image_out.put_bytes.Given as goal

abbrev pub invariant-loop-first : goal.invariant-loop-first
invariant-loop-first g l =
    PutSoFar (g.K.Sink.output l.fn.sink) (g.K.Sink.output l.sink) (text_of (byte_lines l.fn.entries))
    (text_of (byte_lines l.rest))

abbrev pub decreases-loop-first : goal.decreases-loop-first
decreases-loop-first g l = length l.rest
