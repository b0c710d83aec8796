use Rattle.std.proofs.Common.{drop}
use Rattle.f8_link.specs.Linking.{imports_added, all_imports}
use Rattle.f8_link.proofs.EachPart.{EachOn}
use Rattle.f8_link.proofs.linker.all_imports.Given as goal

-- the modules taken and those that follow make the whole
abbrev pub invariant-loop-number : goal.invariant-loop-number
invariant-loop-number l = EachOn (λ number. imports_added l.names) l.number l.all.items (drop l.number l.parts) (all_imports l.names l.parts)
