-- The bytes so far are spelled behind the address.
use Rattle.std.proofs.Common.{◌≡◌, ◌+◌, ◌*◌, ◌++◌, length, map, take, codes}
use Rattle.std.specs.Prelude.{flat_map}
use Rattle.f8_spec.specs.Spelling.{hex2, hex4}
use Rattle.asm_lines.proofs.image_out.byte_line.Given as goal

abbrev pub invariant-loop-at : goal.invariant-loop-at
invariant-loop-at l = record {
  len : length l.line ≡ 5 + 2 * l._at-index;
  text : l.line ≡ hex4 l.first ++ codes " " ++ flat_map hex2 (map (λ e. e.1) (take l._at-index l.entries));
}
