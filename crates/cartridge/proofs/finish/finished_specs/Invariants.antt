-- the chips with lower numbers are finished
use Rattle.cartridge.specs.Plans.{seen_chips}
use Rattle.cartridge.proofs.Finished.{FinishedBelow}
use Rattle.cartridge.proofs.finish.finished_specs.Given as goal

abbrev pub invariant-loop-index : goal.invariant-loop-index
invariant-loop-index l = FinishedBelow (seen_chips l.fn.specs.items l.fn.sources.items) l.index l.specs.items l.sources.items
