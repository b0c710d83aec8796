use Rattle.std.proofs.Common.{◌≡◌, drop}
use Rattle.std.specs.List.{list_any}
use Rattle.f8_asm.proofs.marks.is_free.Given as goal

-- no mark has been passed
abbrev pub invariant-loop-mark : goal.invariant-loop-mark
invariant-loop-mark l = list_any (λ m. m) (drop l.mark-index l.mark-items) ≡ list_any (λ m. m) l.mark-items
