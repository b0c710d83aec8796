-- The pages below one are listed.
use Rattle.std.proofs.Common.{◌≡◌, ◌*◌, length, map}
use Rattle.std.specs.List.{list_any}
use Rattle.f8_spec.specs.declared.bus.BusRule.TheVariants.{Read, Store}
use Rattle.data_bus.specs.PageIndex.{seats}
use Rattle.data_bus.specs.Questions.{AskedAtMost}
use Rattle.data_bus.specs.Racks.{NumberedZip}
use Rattle.data_bus.proofs.Indexing.{ListsBelow, parts_below}
use Rattle.data_bus.proofs.index.Index.of.Given as goal

abbrev pub invariant-loop-page : goal.invariant-loop-page
invariant-loop-page g l = record {
  holder_pages : length l.holders ≡ 256;
  taker_pages : length l.takers ≡ 256;
  holders : ListsBelow Read (seats (map (λ b. (goal.Chip-dyn g (b.vtable, b.value)).state b.value) l.fn.rack.items)) l.page l.holders;
  takers : ListsBelow Store (seats (map (λ b. (goal.Chip-dyn g (b.vtable, b.value)).state b.value) l.fn.rack.items)) l.page l.takers;
  parted : l.is_parted
      ≡ list_any (parts_below l.page) (seats (map (λ b. (goal.Chip-dyn g (b.vtable, b.value)).state b.value) l.fn.rack.items));
  stays : map (λ b. (goal.Chip-dyn g (b.vtable, b.value)).state b.value) l.rack.items
      ≡ map (λ b. (goal.Chip-dyn g (b.vtable, b.value)).state b.value) l.fn.rack.items;
  asked : NumberedZip (AskedAtMost (2 * l.page)) 0
      (map (λ b. (goal.Chip-dyn g (b.vtable, b.value)).queries b.value) l.fn.rack.items)
      (map (λ b. (goal.Chip-dyn g (b.vtable, b.value)).queries b.value) l.rack.items);
  chips : length l.rack.items ≡ length l.fn.rack.items;
}
