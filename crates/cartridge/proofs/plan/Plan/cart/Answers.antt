use Rattle.std.proofs.Common.{arith, ap, length, sym, ◌∙◌}
use Rattle.std.proofs.lemmas.List.{length-map}
use Rattle.cartridge.specs.Carts.{specification_of}
use Rattle.cartridge.specs.Plans.{seen_chips}
use Rattle.cartridge.proofs.PlannedChips.{length-seen_chips, finished_fit}
use Rattle.cartridge.proofs.plan.Plan.cart.Goals as goal

pub finished_specs-requires-clause-few : goal.finished_specs-requires-clause-few
finished_specs-requires-clause-few c =
    let size = length-seen_chips c.self.inside.specs.items c.self.inside.sources.items c.self.invariant.0 in
    let few = c.self.invariant.1.chips.few in
    omega (arith, size, few)

pub from_vec-requires : goal.from_vec-requires
from_vec-requires c =
    rw c.in_ok-specs.ensures.1 (finished_fit (seen_chips c.self.inside.specs.items c.self.inside.sources.items) c.self.invariant.1.chips)

pub returns-clause-whole : goal.returns-clause-whole
returns-clause-whole c =
    let chips = seen_chips c.self.inside.specs.items c.self.inside.sources.items in
    record {
      paired =
          c.self.invariant.1.paired ∙ sym (ap length (c.from_vec.ensures ∙ c.in_ok-specs.ensures.1) ∙ length-map chips specification_of);
    }
