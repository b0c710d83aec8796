-- the bytes so far stand behind what was there
use Rattle.std.proofs.Common.{◌≡◌, ◌++◌, ◌+◌, length, take}
use Rattle.report.proofs.line_buffer.Line.text.Given as goal

abbrev pub invariant-loop-byte : goal.invariant-loop-byte
invariant-loop-byte l = record {
  written : l.self ≡ l.initial.self ++ take l.byte-index l.text;
  len : length l.self ≡ length l.initial.self + l.byte-index;
}
