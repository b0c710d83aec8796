use Rattle.std.proofs.Common.{drop}
use Rattle.f8_link.specs.Linking.{export_given, exports_given}
use Rattle.f8_link.proofs.LinkSteps.{StepsOn}
use Rattle.f8_link.proofs.linker.give_exports.Given as goal

-- the exports given and those that follow make the whole
abbrev pub invariant-loop-name : goal.invariant-loop-name
invariant-loop-name l =
    StepsOn (export_given l.part.room.first) l.names (drop l.name-index l.part.object.exports) (exports_given l.fn.names l.part)
