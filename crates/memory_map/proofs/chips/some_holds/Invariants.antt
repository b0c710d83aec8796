-- None of the chips so far does.
use Rattle.std.proofs.Common.{◌≡◌, false, take}
use Rattle.std.specs.Prelude.{None}
use Rattle.std.specs.List.{list_any}
use Rattle.f8_spec.specs.BusArbitration.{seat_of}
use Rattle.chip_face.specs.Fitting.{fitted}
use Rattle.memory_map.specs.MapKinds.{has_kind_and_page}
use Rattle.memory_map.proofs.chips.some_holds.Given as goal

abbrev pub invariant-loop-chip : goal.invariant-loop-chip
invariant-loop-chip l =
    list_any (λ chip. has_kind_and_page l.kind l.number (seat_of (fitted None chip))) (take l.chip-index l.chips) ≡ false
