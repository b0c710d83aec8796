use Rattle.text_lines.proofs.LineLaws.{NoFeed}
use Rattle.text_lines.proofs.lines.first_line.Given as goal

-- no LF has been passed
abbrev pub invariant-loop-at : goal.invariant-loop-at
invariant-loop-at l = NoFeed l.at l.text
