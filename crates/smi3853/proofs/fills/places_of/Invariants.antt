use Rattle.smi3853.proofs.Placing.{Placed}
use Rattle.smi3853.proofs.fills.places_of.Given as goal

abbrev pub invariant-loop-place : goal.invariant-loop-place
invariant-loop-place l = Placed l.places l.pages l.place
