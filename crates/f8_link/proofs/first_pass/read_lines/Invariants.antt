use Rattle.std.proofs.Common.{◌≡◌, ◌+◌, ◌≤◌, length}
use Rattle.text_lines.specs.Lines.{lines}
use Rattle.f8_link.specs.FirstPass.{no_reading, read_lines}
use Rattle.f8_link.proofs.first_pass.read_lines.Given as goal

-- the lines read and those that follow make the whole, and each line takes a byte
abbrev pub invariant-loop-rest : goal.invariant-loop-rest
invariant-loop-rest l = record {
  is : read_lines l.reading (lines l.rest) ≡ read_lines no_reading (lines l.text);
  room : l.reading.count + length l.rest ≤ length l.text;
}

-- each turn leaves less
abbrev pub decreases-loop-rest : goal.decreases-loop-rest
decreases-loop-rest l = length l.rest
