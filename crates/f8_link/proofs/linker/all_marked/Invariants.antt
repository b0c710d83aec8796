use Rattle.std.proofs.Common.{◌≡◌, drop, length, Ok}
use Rattle.f8_link.specs.Linking.{inside, marked, all_marked}
use Rattle.f8_link.proofs.EachPart.{EachOn}
use Rattle.f8_link.proofs.linker.all_marked.Given as goal

-- the modules marked and those that follow make the whole; those that follow lie in their rooms
abbrev pub invariant-loop-number : goal.invariant-loop-number
invariant-loop-number l =
    EachOn (λ number. marked) l.number l.marks.items (drop l.number l.parts) (all_marked 65536 l.parts)
    × EachOn (λ number. inside) l.number tt (drop l.number l.parts) (Ok tt) × (length l.marks.items ≡ 65536)
