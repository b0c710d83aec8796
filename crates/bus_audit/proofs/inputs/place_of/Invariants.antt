-- The socket's place is among those that are left.
use Rattle.std.proofs.Common.{◌≡◌}
use Rattle.bus_audit.specs.Choices.{place_in_chain}
use Rattle.bus_audit.proofs.ToldInputs.{place_from}
use Rattle.bus_audit.proofs.inputs.place_of.Given as goal

abbrev pub invariant-loop-place : goal.invariant-loop-place
invariant-loop-place l = place_from l.socket l.chain l.place ≡ place_in_chain l.socket l.chain
