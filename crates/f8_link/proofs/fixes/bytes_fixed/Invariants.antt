use Rattle.std.proofs.Common.{drop}
use Rattle.f8_asm.specs.Steps.{steps}
use Rattle.f8_link.specs.Linking.{fixup_put}
use Rattle.f8_link.proofs.LinkSteps.{StepsOn}
use Rattle.f8_link.proofs.fixes.bytes_fixed.Given as goal

-- what is put and what follows make the whole
abbrev pub invariant-loop-fixup : goal.invariant-loop-fixup
invariant-loop-fixup l =
    StepsOn (fixup_put l.part.room.first l.imports) l.bytes.items (drop l.fixup-index l.part.object.fixups)
    (steps (fixup_put l.part.room.first l.imports) l.part.object.bytes l.part.object.fixups)
