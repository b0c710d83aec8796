-- One register that isn't below, or all that are.
use Rattle.std.proofs.Common.{arith, sym, ◌∙◌}
use Rattle.abs_domain.specs.Lattice.{same_number}
use Rattle.abs_domain.specs.KnownParts.{known_byte}
use Rattle.abs_domain.specs.declared.values.Val.TheVariants.{Known, Any}
use Rattle.abs_domain.proofs.Lists.{each_below_all, each_below_not}
use Rattle.abs_domain.proofs.scratchpad.scratchpad_below.Goals as goal

pub returns-then-not-below : goal.returns-then-not-below
returns-then-not-below c =
    sym (each_below_not same_number known_byte c.args.lower.now c.args.upper.now c.loop-number.number (Known 0) (Known 0)
    (omega (arith, c.told-lower)) (omega (arith, c.told-upper)) (sym c.below.ensures ∙ c.if-not-below.true))

pub returns : goal.returns
returns c = sym (each_below_all same_number known_byte c.args.lower.now c.args.upper.now Any Any
    (omega (arith, c.told-lower, c.told-upper)) (λ k small. c.loop-number.invariant k (omega (arith, c.told-lower))))
