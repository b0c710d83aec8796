-- So many pages are told.
use Rattle.std.proofs.Common.{◌≡◌, ℕ, ◌<◌, false, length}
use Rattle.std.specs.Prelude.{None, slice_index_or}
use Rattle.std.specs.List.{list_any}
use Rattle.f8_spec.specs.BusArbitration.{seat_of}
use Rattle.chip_face.specs.Fitting.{fitted}
use Rattle.memory_map.specs.MapKinds.{has_kind_and_page}
use Rattle.memory_map.proofs.kinds.KindPages.of.Given as goal

abbrev pub invariant-loop-number : goal.invariant-loop-number
invariant-loop-number l = record {
  size : length l.held ≡ 256;
  held :
      (number : ℕ) → number < l.number → slice_index_or l.held number false
      ≡ list_any (λ chip. has_kind_and_page l.kind number (seat_of (fitted None chip))) l.chips;
}
