use Rattle.memory_map.proofs.Held.{Passed}
use Rattle.memory_map.proofs.pages.page_among.Given as goal

abbrev pub invariant-loop-page : goal.invariant-loop-page
invariant-loop-page l = Passed l.number l.pages l.rom l.rest l.page-index
