-- What is found so far, from which the chips that are left lead to the whole; and the questions put so far, which change no chip.
use Rattle.std.proofs.Common.{◌≡◌, ◌*◌, drop, map}
use Rattle.std.specs.Prelude.{◌||◌}
use Rattle.std.specs.List.{list_any}
use Rattle.f8_spec.specs.declared.bus.BusRule.TheVariants.{Read, Store}
use Rattle.data_bus.specs.PageIndex.{seats}
use Rattle.data_bus.specs.Questions.{AskedAtMost}
use Rattle.data_bus.specs.Surveys.{parts_at}
use Rattle.data_bus.proofs.Racks.{ChangedBelow}
use Rattle.data_bus.proofs.Surveying.{Surveyed}
use Rattle.data_bus.proofs.page_survey.survey_page.Given as goal

abbrev pub invariant-loop-i : goal.invariant-loop-i
invariant-loop-i g l = record {
  holders : Surveyed Read (l.page * 256) (seats (map (λ b. (goal.Chip-dyn g (b.vtable, b.value)).state b.value) l.initial.chip-items)) l.i
      l.holders;
  takers : Surveyed Store (l.page * 256) (seats (map (λ b. (goal.Chip-dyn g (b.vtable, b.value)).state b.value) l.initial.chip-items)) l.i
      l.takers;
  parted : (l.is_parted || list_any (parts_at (l.page * 256))
      (drop l.i (seats (map (λ b. (goal.Chip-dyn g (b.vtable, b.value)).state b.value) l.initial.chip-items))))
      ≡ list_any (parts_at (l.page * 256)) (seats (map (λ b. (goal.Chip-dyn g (b.vtable, b.value)).state b.value) l.initial.chip-items));
  stays : map (λ b. (goal.Chip-dyn g (b.vtable, b.value)).state b.value) l.chip-items
      ≡ map (λ b. (goal.Chip-dyn g (b.vtable, b.value)).state b.value) l.initial.chip-items;
  asked : ChangedBelow (AskedAtMost 2) l.i
      (map (λ b. (goal.Chip-dyn g (b.vtable, b.value)).queries b.value) l.initial.chip-items)
      (map (λ b. (goal.Chip-dyn g (b.vtable, b.value)).queries b.value) l.chip-items);
}
