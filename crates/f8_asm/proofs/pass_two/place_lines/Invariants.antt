use Rattle.std.proofs.Common.{◌≡◌}
use Rattle.std.specs.Vec.Iter.{into_iter_items}
use Rattle.f8_asm.specs.ParsedLines.{place_all_parsed}
use Rattle.f8_asm.specs.PassTwo.{no_layout}
use Rattle.f8_asm.proofs.pass_two.place_lines.Given as goal

-- the lines placed and those that follow make the whole
abbrev pub invariant-loop-line : goal.invariant-loop-line
invariant-loop-line l = place_all_parsed l.room l.layout (into_iter_items l.line-iterator) ≡ place_all_parsed l.room (no_layout 65536) l.fn.lines.items
