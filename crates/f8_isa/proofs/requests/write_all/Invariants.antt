-- The chips that were reached have the write, and the others are as they were.
use Rattle.std.proofs.Common.{◌≡◌, ◌++◌, map, take, drop}
use Rattle.f8_isa.specs.Requests.{after_port_write}
use Rattle.f8_isa.proofs.requests.write_all.Given as goal

abbrev pub invariant-loop-chip : goal.invariant-loop-chip
invariant-loop-chip l = l.chips ≡ map (after_port_write l.write) (take l.chip-index l.initial.chips) ++ drop l.chip-index l.initial.chips
