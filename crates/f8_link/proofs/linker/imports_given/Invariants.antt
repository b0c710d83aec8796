use Rattle.std.proofs.Common.{drop}
use Rattle.f8_link.specs.Linking.{import_given, imports_given}
use Rattle.f8_link.proofs.LinkSteps.{StepsOn}
use Rattle.f8_link.proofs.linker.imports_given.Given as goal

-- the imports found and those that follow make the whole
abbrev pub invariant-loop-name : goal.invariant-loop-name
invariant-loop-name l =
    StepsOn (import_given l.names) l.values.items (drop l.name-index l.part.object.imports) (imports_given l.names l.part)
