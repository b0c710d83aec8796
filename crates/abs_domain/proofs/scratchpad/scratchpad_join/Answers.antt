-- The registers are those of the join when all are done.
use Rattle.std.proofs.Common.{arith}
use Rattle.abs_domain.specs.Lattice.{same_number}
use Rattle.abs_domain.specs.KnownParts.{known_byte}
use Rattle.abs_domain.specs.declared.values.Val.TheVariants.{Any}
use Rattle.abs_domain.proofs.Lists.{common_each_from}
use Rattle.abs_domain.proofs.scratchpad.scratchpad_join.Goals as goal

pub returns : goal.returns
returns c = common_each_from same_number known_byte c.args.first.now c.args.second.now c.loop-number.joined Any
    (omega (arith, c.told-first, c.told-second)) (omega (arith, c.told-first, c.loop-number.invariant.0))
    (λ k small. c.loop-number.invariant.1 k (omega (arith, c.told-first)))
