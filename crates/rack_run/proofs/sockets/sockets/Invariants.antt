-- The sockets of the kind so far are counted.
use Rattle.std.proofs.Common.{◌≡◌, ◌≤◌, map, take}
use Rattle.rack_run.specs.Seating.{kinds_of}
use Rattle.rack_run.specs.Sockets.{sockets_of}
use Rattle.rack_run.proofs.sockets.sockets.Given as goal

abbrev pub invariant-loop-chip : goal.invariant-loop-chip
invariant-loop-chip g l = record {
  count : l.count
      ≡ sockets_of l.kind
      (take l.chip-index (kinds_of (map (λ b. (goal.Chip-dyn g (b.vtable, b.value)).state b.value) l.chip-items)));
  few : l.count ≤ l.chip-index;
}
