-- The chain so far leads to the whole one, and has no more sockets than chips that were passed.
use Rattle.std.proofs.Common.{◌≡◌, ◌≤◌, map, drop, length}
use Rattle.rack_run.specs.Seating.{kinds_of}
use Rattle.rack_run.specs.Sockets.{chain_of, chain_with}
use Rattle.rack_run.proofs.sockets.chain_of.Given as goal

abbrev pub invariant-loop-chip : goal.invariant-loop-chip
invariant-loop-chip g l =
    let kinds = kinds_of (map (λ b. (goal.Chip-dyn g (b.vtable, b.value)).state b.value) l.rack.items) in
    record {
      leads : chain_with kinds l.chain (drop l.chip-index l.chip-items) ≡ chain_of l.chips kinds;
      few : length l.chain ≤ l.chip-index;
    }
