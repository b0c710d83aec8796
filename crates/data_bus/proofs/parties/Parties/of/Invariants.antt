-- The parties so far are the first of those given.
use Rattle.std.proofs.Common.{◌≡◌, take}
use Rattle.data_bus.proofs.parties.Parties.of.Given as goal

abbrev pub invariant-loop-party : goal.invariant-loop-party
invariant-loop-party l = l.all ≡ take l.party-index l.parties
