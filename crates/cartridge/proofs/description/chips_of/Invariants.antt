-- the chips of the tables so far
use Rattle.std.proofs.Common.{map}
use Rattle.cartridge.specs.Plans.{seen_chip, seen_table}
use Rattle.cartridge.proofs.ChipsRead.{HasChips}
use Rattle.cartridge.proofs.description.chips_of.Given as goal

abbrev pub invariant-loop-index : goal.invariant-loop-index
invariant-loop-index l = HasChips l.format (map seen_table l.tables) l.index (map seen_chip l.chips.items)
