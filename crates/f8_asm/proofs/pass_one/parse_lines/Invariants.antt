use Rattle.std.proofs.Common.{◌≡◌, ◌+◌, ◌≤◌, length}
use Rattle.text_lines.specs.Lines.{lines}
use Rattle.f8_asm.specs.ParsedLines.{parse_lines, no_parsing}
use Rattle.f8_asm.proofs.pass_one.parse_lines.Given as goal

-- the lines read and those that follow make the whole, and each line takes a byte
abbrev pub invariant-loop-rest : goal.invariant-loop-rest
invariant-loop-rest l = record {
  is : parse_lines l.parsing (lines l.rest) ≡ parse_lines no_parsing (lines l.text);
  room : length l.parsing.lines + length l.rest ≤ length l.text;
}

-- each turn leaves less
abbrev pub decreases-loop-rest : goal.decreases-loop-rest
decreases-loop-rest l = length l.rest
