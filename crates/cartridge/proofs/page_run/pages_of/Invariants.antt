-- the pages with lower numbers stand in the list
use Rattle.std.proofs.Common.{◌≡◌}
use Rattle.cartridge.proofs.PageLists.{pages_below}
use Rattle.cartridge.proofs.page_run.pages_of.Given as goal

abbrev pub invariant-loop-number : goal.invariant-loop-number
invariant-loop-number l = l.pages.items ≡ pages_below l.runs l.number
