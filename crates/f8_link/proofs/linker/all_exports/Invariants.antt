use Rattle.std.proofs.Common.{drop}
use Rattle.f8_link.specs.Linking.{exports_given, all_exports}
use Rattle.f8_link.proofs.EachPart.{EachOn}
use Rattle.f8_link.proofs.linker.all_exports.Given as goal

-- the modules taken and those that follow make the whole
abbrev pub invariant-loop-number : goal.invariant-loop-number
invariant-loop-number l = EachOn (λ number. exports_given) l.number l.names (drop l.number l.parts) (all_exports l.parts)
