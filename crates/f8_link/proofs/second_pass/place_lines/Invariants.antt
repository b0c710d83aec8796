use Rattle.std.proofs.Common.{◌≡◌}
use Rattle.std.specs.Vec.Iter.{into_iter_items}
use Rattle.f8_link.specs.SecondPass.{no_layout, place_lines}
use Rattle.f8_link.proofs.second_pass.place_lines.Given as goal

-- the lines placed and those that follow make the whole
abbrev pub invariant-loop-line : goal.invariant-loop-line
invariant-loop-line l = place_lines l.imports l.layout (into_iter_items l.line-iterator) ≡ place_lines l.imports no_layout l.fn.lines.items
