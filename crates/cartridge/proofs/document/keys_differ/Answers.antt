use Rattle.cartridge.proofs.KeysDiffer.{ascending_differ}
use Rattle.cartridge.proofs.document.keys_differ.Goals as goal

pub returns : goal.returns
returns c = ascending_differ c.args.table.now.entries c.len-count.ensures.ordered
