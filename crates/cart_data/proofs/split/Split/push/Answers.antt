use Rattle.std.proofs.Common.{◌<◌, ◌∙◌, arith, length-set}
use Rattle.std.proofs.lemmas.List.{take_more_set}
use Rattle.cart_data.proofs.Registers.{split_push}
use Rattle.cart_data.proofs.split.Split.push.Goals as goal

pub invariant_of-self : goal.invariant_of-self
invariant_of-self c =
    let (few, size, held) = c.self.invariant in
    let shorter : c.self.inside.len < 8 = grind (arith, c.requires.few, c.self.view_is) in
    let placed = take_more_set c.self.inside.registers c.self.inside.len c.args.register (omega (arith, size, shorter)) in (
      omega arith,
      length-set c.self.inside.registers c.self.inside.len c.args.register ∙ size,
      rw placed (split_push _ c.args.register held (rw (← c.self.view_is) at c.requires.few) c.requires.below (rw (← c.self.view_is) at c.requires.other)),
    )
