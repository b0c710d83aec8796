-- The lines of the names so far are written, and no fault was met.
use Rattle.std.proofs.Common.{map, drop}
use Rattle.console_spec.specs.RunText.{text_of}
use Rattle.outside.proofs.SinkLaws.{PutSoFar}
use Rattle.asm_lines.specs.ImageLines.{symbol_line, symbol_lines}
use Rattle.asm_lines.proofs.image_out.put_symbols.Given as goal

abbrev pub invariant-loop-k : goal.invariant-loop-k
invariant-loop-k g l =
    PutSoFar (g.K.Sink.output l.fn.sink) (g.K.Sink.output l.sink) (text_of (symbol_lines l.symbols))
    (text_of (map symbol_line (drop l.k l.symbols)))
