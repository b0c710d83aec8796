-- the bytes so far are told behind the first, each with a comma
use Rattle.std.proofs.Common.{◌≡◌, ◌++◌, ◌+◌, ◌*◌, length, take}
use Rattle.std.specs.Prelude.{flat_map}
use Rattle.report.specs.CheckLines.{next_value}
use Rattle.report.proofs.check_lines.write_values.Given as goal

abbrev pub invariant-loop-value : goal.invariant-loop-value
invariant-loop-value l = record {
  len : length l.line ≡ length l.initial.line + 3 * l.value-index;
  text : l.line ≡ l.initial.line ++ flat_map next_value (take l.value-index l.others);
}
