use Rattle.std.proofs.Common.{drop, take, All}
use Rattle.f8_link.specs.Linking.{IsLow, inside, all_inside}
use Rattle.f8_link.proofs.EachPart.{EachOn}
use Rattle.f8_link.proofs.linker.all_inside.Given as goal

-- the modules tried and those that follow make the whole; the rooms of those tried are low
abbrev pub invariant-loop-number : goal.invariant-loop-number
invariant-loop-number l = EachOn (λ number. inside) l.number tt (drop l.number l.parts) (all_inside l.parts) × All IsLow (take l.number l.parts)
