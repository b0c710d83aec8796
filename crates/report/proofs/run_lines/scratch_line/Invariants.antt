-- the bytes so far are spelled behind the row's name
use Rattle.std.proofs.Common.{◌≡◌, ◌++◌, ◌+◌, ◌*◌, ◌∷◌, length, take, codes}
use Rattle.std.specs.Prelude.{flat_map}
use Rattle.console_spec.specs.RunText.{blank_hex2}
use Rattle.report.proofs.run_lines.scratch_line.Given as goal

abbrev pub invariant-loop-byte : goal.invariant-loop-byte
invariant-loop-byte l = record {
  len : length l.line ≡ 3 + 3 * l.byte-index;
  text : l.line ≡ codes "s" ++ (48 + l.row) ∷ codes "0" ++ flat_map blank_hex2 (take l.byte-index l.byte-items);
}
