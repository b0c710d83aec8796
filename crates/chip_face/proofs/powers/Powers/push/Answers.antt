-- One more, with a byte and an address, behind the others.
use Rattle.std.proofs.Common.{◌≡◌, ◌<◌, length, arith, rules, length-set, ◌∙◌}
use Rattle.chip_face.specs.declared.sizes.TheConstants.{MOST_CHIPS}
use Rattle.chip_face.proofs.MorePowers.{powers_with}
use Rattle.chip_face.proofs.powers.Powers.push.Goals as goal

pub invariant_of-self : goal.invariant_of-self
invariant_of-self c =
    let room : c.self.inside.len < MOST_CHIPS = search rules in
    let long : length c.self.inside.items ≡ MOST_CHIPS = c.self.invariant.1 in (
      omega (arith, room),
      length-set c.self.inside.items c.self.inside.len c.args.power ∙ long,
      powers_with c.self.inside.items c.self.inside.len c.args.power (omega (arith, room, long)) c.ranges_law.ensures c.self.invariant.2,
    )
