-- The lines so far give the entries, and the rest goes on from them behind the last one.
use Rattle.std.proofs.Common.{◌≡◌, ◌+◌, ◌-◌, length}
use Rattle.std.specs.Prelude.{None}
use Rattle.case_text.specs.CasesText.{entries_at}
use Rattle.case_text.proofs.LinesInOrder.{IsLast, last_of, with_front}
use Rattle.case_text.proofs.read.entries_of.Given as goal

abbrev pub invariant-loop-number : goal.invariant-loop-number
invariant-loop-number l = record {
  few : length l.list + 2 ≡ l.number;
  last : IsLast (last_of l.before) l.list;
  same : with_front l.list (entries_at (l.count + 2 - l.number) l.number (last_of l.before) l.rest) ≡ entries_at l.count 2 None l.fn.text;
}
