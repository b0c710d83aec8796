-- The chips of the kind so far are counted.
use Rattle.std.proofs.Common.{◌≡◌, ◌≤◌, take}
use Rattle.rack_run.specs.Sockets.{needed_of}
use Rattle.rack_run.proofs.sockets.sockets_needed.Given as goal

abbrev pub invariant-loop-chip : goal.invariant-loop-chip
invariant-loop-chip l = record {
  count : l.count ≡ needed_of l.kind (take l.chip-index l.chips);
  few : l.count ≤ l.chip-index;
}
