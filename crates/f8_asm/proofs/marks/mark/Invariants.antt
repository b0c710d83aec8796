use Rattle.std.proofs.Common.{◌≡◌}
use Rattle.f8_asm.specs.Marks.{marks_with}
use Rattle.f8_asm.proofs.marks.mark.Given as goal

abbrev pub invariant-loop-k : goal.invariant-loop-k
invariant-loop-k l = l.marks ≡ marks_with l.fn.marks l.at l.k
