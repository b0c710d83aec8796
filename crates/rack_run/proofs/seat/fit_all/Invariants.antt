-- The chips that were reached are fitted and counted, and the others are as they were.
use Rattle.std.proofs.Common.{◌≡◌, ◌≤◌, map}
use Rattle.data_bus.proofs.Racks.{ChangedBelow}
use Rattle.f8_spec.specs.declared.chips.ChipKind.{ChipKind}
use Rattle.rack_run.specs.Seating.{FitsWhole, kinds_of, so_far, seated}
use Rattle.rack_run.proofs.Seats.{Counted}
use Rattle.rack_run.proofs.seat.fit_all.Given as goal

abbrev pub invariant-loop-chip : goal.invariant-loop-chip
invariant-loop-chip g l = record {
  few : (kind : ChipKind) → so_far l.sockets kind ≤ l.chip-index;
  counted : Counted l.chips (seated l.chips (map (λ b. (goal.Chip-dyn g (b.vtable, b.value)).state b.value) l.initial.chip-items))
      (kinds_of (map (λ b. (goal.Chip-dyn g (b.vtable, b.value)).state b.value) l.initial.chip-items)) l.chip-index
      (so_far l.sockets);
  changed : ChangedBelow
      (FitsWhole (seated l.chips (map (λ b. (goal.Chip-dyn g (b.vtable, b.value)).state b.value) l.initial.chip-items)))
      l.chip-index
      (map (λ b. (goal.Chip-dyn g (b.vtable, b.value)).state b.value) l.initial.chip-items)
      (map (λ b. (goal.Chip-dyn g (b.vtable, b.value)).state b.value) l.chip-items);
  asked : map (λ b. (goal.Chip-dyn g (b.vtable, b.value)).queries b.value) l.chip-items
      ≡ map (λ b. (goal.Chip-dyn g (b.vtable, b.value)).queries b.value) l.initial.chip-items;
}
