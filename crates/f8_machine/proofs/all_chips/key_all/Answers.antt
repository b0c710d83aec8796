-- Each chip has the key byte, and the chips behind it are as they were.
use Rattle.std.proofs.Common.{length, map, refl, ◌≤◌, ◌≡◌, ◌∙◌, ap, vec_len}
use Rattle.std.proofs.Math.Seq.{map-set_same}
use Rattle.data_bus.proofs.Racks.{changed-none, changed-more, changed-written, whole_again}
use Rattle.f8_machine.specs.Keying.{KeysInSocket}
use Rattle.f8_machine.proofs.all_chips.key_all.Goals as goal

pub loop-chip-init : goal.loop-chip-init
loop-chip-init g c = record { changed = changed-none _ _; asked = refl }

pub loop-chip-preserved : goal.loop-chip-preserved
loop-chip-preserved g c = record {
  changed = changed-more (λ b. (goal.Chip-dyn g (b.vtable, b.value)).state b.value) (KeysInSocket c.args.port c.args.byte)
      c.deref_mut-chip-items.result.now c.loop-chip.chip-items c.loop-chip.chip-index c.chip-item.result c.key_at.new.chip
      c.loop-chip-test.true c.loop-chip.auto.chip-items c.loop-chip.invariant.changed c.key_at.ensures.keys;
  asked = map-set_same (λ b. (goal.Chip-dyn g (b.vtable, b.value)).queries b.value) c.loop-chip.chip-items
      c.loop-chip.chip-index c.key_at.new.chip c.chip-item.result c.key_at.ensures.asked ∙ c.loop-chip.invariant.asked;
}

pub returns : goal.returns
returns g c =
    let long : length c.loop-chip.chip-items ≡ length c.args.rack.now.items =
    rw c.deref_mut-chip-items.ensures.value at c.loop-chip.auto.chip-items in
    let count : length c.args.rack.now.items ≡ vec_len c.args.rack.now =
    rw c.deref_mut-chip-items.ensures.value at c.deref_mut-chip-items.ensures.len in
    let past : length c.args.rack.now.items ≤ c.loop-chip.chip-index =
    rw c.deref_mut-chip-items.ensures.value at c.loop-chip-test.false in
    record {
      keyed = changed-written (λ b. (goal.Chip-dyn g (b.vtable, b.value)).state b.value)
          (KeysInSocket c.args.port c.args.byte)
          c.args.rack.now.items c.loop-chip.chip-items _ c.loop-chip.chip-index count long past
          (rw c.deref_mut-chip-items.ensures.value at c.loop-chip.invariant.changed);
      asked = ap (map (λ b. (goal.Chip-dyn g (b.vtable, b.value)).queries b.value))
          (whole_again _ c.args.rack.now.items c.loop-chip.chip-items count long)
          ∙ (rw c.deref_mut-chip-items.ensures.value at c.loop-chip.invariant.asked);
      chips = ap length (whole_again _ c.args.rack.now.items c.loop-chip.chip-items count long) ∙ long;
    }
