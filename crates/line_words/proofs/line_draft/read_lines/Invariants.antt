-- The lines so far are read into the draft, and each takes a byte.
use Rattle.std.proofs.Common.{◌+◌, ◌≤◌, length}
use Rattle.line_words.proofs.LineSteps.{Reads}
use Rattle.line_words.proofs.line_draft.read_lines.Given as goal

abbrev pub invariant-loop-rest : goal.invariant-loop-rest
invariant-loop-rest g l = record {
  reads : Reads g.D.LineDraft.after_line l.text l.rest l.count l.fn.draft l.draft;
  room : l.count + length l.rest ≤ length l.text;
}

-- each turn leaves less
abbrev pub decreases-loop-rest : goal.decreases-loop-rest
decreases-loop-rest g l = length l.rest
