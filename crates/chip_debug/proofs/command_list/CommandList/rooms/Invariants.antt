-- The rooms of the commands so far, of which each takes one at most.
use Rattle.std.proofs.Common.{◌≡◌, ◌≤◌, take}
use Rattle.chip_debug.specs.Limits.{rooms_of}
use Rattle.chip_debug.proofs.command_list.CommandList.rooms.Given as goal

abbrev pub invariant-loop-command : goal.invariant-loop-command
invariant-loop-command l = record {
  so_far : l.rooms ≡ rooms_of (take l.command-index l.command-items);
  few : l.rooms ≤ l.command-index;
}
