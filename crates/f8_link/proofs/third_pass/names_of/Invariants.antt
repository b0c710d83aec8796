use Rattle.std.proofs.Common.{◌≡◌, take, map}
use Rattle.f8_link.proofs.third_pass.names_of.Given as goal

-- the names so far
abbrev pub invariant-loop-k : goal.invariant-loop-k
invariant-loop-k l = l.names.items ≡ map (λ i. i.0) (take l.k l.imports)
