-- The lines so far, with those of the entries that are left, are those of all. They are neither too many nor too long.
use Rattle.std.proofs.Common.{◌≡◌, ◌≤◌, drop, length, map}
use Rattle.case_step.specs.EntryViews.{entry_view}
use Rattle.case_text.specs.WrittenCases.{lines_with, lines_of}
use Rattle.case_text.proofs.write.lines_of.Given as goal

abbrev pub invariant-loop-entry : goal.invariant-loop-entry
invariant-loop-entry l = record {
  rest : lines_with (map (λ line. line.items) l.lines.lines.keys) (map entry_view (drop l.entry-index l.entries))
      ≡ lines_of (map entry_view l.entries);
  short : l.lines.size ≤ 67108864;
  few : length l.lines.lines.keys ≤ 65536;
}
