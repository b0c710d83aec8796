use Rattle.smi3853.proofs.Filling.{Filled}
use Rattle.smi3853.proofs.fills.fill_ram.Given as goal

abbrev pub invariant-loop-place : goal.invariant-loop-place
invariant-loop-place l = Filled l.fill l.pages l.initial.bytes l.bytes l.place
