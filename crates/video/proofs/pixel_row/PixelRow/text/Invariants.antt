use Rattle.std.proofs.Common.{◌+◌, ◌*◌}
use Rattle.video.proofs.RowTexts.{WrittenBelow}
use Rattle.video.proofs.pixel_row.PixelRow.text.Given as goal

abbrev pub invariant-loop-byte : goal.invariant-loop-byte
invariant-loop-byte l = WrittenBelow l.self (8 * l.byte) l.text

abbrev pub invariant-loop-bit : goal.invariant-loop-bit
invariant-loop-bit l = WrittenBelow l.self (8 * l.byte + l.bit) l.text
