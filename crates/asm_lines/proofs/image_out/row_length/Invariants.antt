-- The entries so far follow the first address.
use Rattle.std.proofs.Common.{◌≡◌, ◌+◌, ◌≤◌, drop}
use Rattle.asm_lines.specs.Rows.{following}
use Rattle.asm_lines.proofs.image_out.row_length.Given as goal

abbrev pub invariant-loop-at : goal.invariant-loop-at
invariant-loop-at l = record {
  counted : l.count ≡ l.at-index;
  few : l.count ≤ 16;
  next : l.next ≡ l.first + l.count;
  on : following l.first l.entries ≡ l.count + following l.next (drop l.at-index l.entries);
}
