-- the chips so far are spelled behind the code
use Rattle.std.proofs.Common.{◌≡◌, ◌≤◌, ◌++◌, ◌+◌, ◌*◌, length, take, codes}
use Rattle.std.specs.Prelude.{flat_map}
use Rattle.f8_spec.specs.Spelling.{hex2}
use Rattle.console_spec.specs.RunText.{party_text}
use Rattle.report.proofs.run_lines.conflict_line.Given as goal

abbrev pub invariant-loop-party : goal.invariant-loop-party
invariant-loop-party l = record {
  len : length l.line ≤ 21 + 19 * l.party-index;
  text : l.line ≡ codes "stop conflict romc " ++ hex2 l.fn.romc ++ flat_map party_text (take l.party-index l.parties);
}
