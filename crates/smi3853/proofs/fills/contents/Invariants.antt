use Rattle.smi3853.proofs.Filling.{Filling}
use Rattle.smi3853.proofs.fills.contents.Given as goal

abbrev pub invariant-loop-page : goal.invariant-loop-page
invariant-loop-page l = Filling l.pages l.rom l.bytes.items l.rest l.page-index
