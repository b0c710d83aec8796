-- The parties so far, from which the flags that are left lead to all.
use Rattle.std.proofs.Common.{◌≡◌, ◌≤◌, ◌++◌, drop, length, map}
use Rattle.data_bus.specs.KnownPlaces.{party_at}
use Rattle.data_bus.specs.PageIndex.{flagged}
use Rattle.data_bus.proofs.listed_poll.parties_at.Given as goal

abbrev pub invariant-loop-i : goal.invariant-loop-i
invariant-loop-i l = record {
  rest : l.parties ++ map (party_at l.at) (flagged l.i (drop l.i l.flags)) ≡ map (party_at l.at) (flagged 0 l.flags);
  few : length l.parties ≤ l.i;
}
