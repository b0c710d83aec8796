-- A socket that isn't among the others keeps them different.
use Rattle.std.proofs.Common.{◌<◌, ◌≡◌, length, ◌∙◌, arith, rules, length-set}
use Rattle.chip_face.specs.declared.sizes.TheConstants.{MOST_CHIPS}
use Rattle.f8_machine.proofs.Chains.{distinct_with}
use Rattle.f8_machine.proofs.chain.Chain.push.Goals as goal

pub invariant_of-self : goal.invariant_of-self
invariant_of-self c =
    let room : c.self.inside.len < MOST_CHIPS = search rules in
    let long : length c.self.inside.sockets ≡ MOST_CHIPS = c.self.invariant.1 in (
      omega (arith, room),
      length-set c.self.inside.sockets c.self.inside.len c.args.socket ∙ long,
      distinct_with c.self.inside.sockets c.self.inside.len c.args.socket (omega (arith, room, long))
          (rw c.self.view_is c.requires.fresh) c.self.invariant.2,
    )
