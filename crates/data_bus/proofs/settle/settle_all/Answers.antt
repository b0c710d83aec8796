-- Each chip hears the step by its socket, and the chips behind it are as they were.
use Rattle.std.proofs.Common.{length, map, ◌≤◌, ◌≡◌, ◌∙◌, ap, refl, vec_len}
use Rattle.std.proofs.Math.Seq.{map-set_same}
use Rattle.data_bus.specs.Racks.{SettlesStep}
use Rattle.data_bus.proofs.Racks.{changed-none, changed-more, changed-written, unchanged_at, whole_again}
use Rattle.data_bus.proofs.settle.settle_all.Goals as goal

pub settle_at-requires : goal.settle_at-requires
settle_at-requires g c =
    let kept = unchanged_at (λ b. (goal.Chip-dyn g (b.vtable, b.value)).state b.value)
    (SettlesStep c.args.cycle.now.romc c.args.cycle.now.long c.args.cycle.now.first c.args.byte)
    c.deref_mut-chip-items.result.now c.loop-i.chip-items c.loop-i.i c.chip-item.result c.loop-i-test.true c.loop-i.auto.chip-items
    c.loop-i.invariant.settled in
    c.requires.chosen c.loop-i.i _ (rw c.deref_mut-chip-items.ensures.value at kept)

pub loop-i-init : goal.loop-i-init
loop-i-init g c = record { settled = changed-none _ _; asked = refl }

pub loop-i-preserved : goal.loop-i-preserved
loop-i-preserved g c = record {
  settled = changed-more (λ b. (goal.Chip-dyn g (b.vtable, b.value)).state b.value)
      (SettlesStep c.args.cycle.now.romc c.args.cycle.now.long c.args.cycle.now.first c.args.byte)
      c.deref_mut-chip-items.result.now c.loop-i.chip-items c.loop-i.i c.chip-item.result c.settle_at.new.chip
      c.loop-i-test.true c.loop-i.auto.chip-items c.loop-i.invariant.settled c.settle_at.ensures.settles;
  asked = map-set_same (λ b. (goal.Chip-dyn g (b.vtable, b.value)).queries b.value) c.loop-i.chip-items c.loop-i.i
      c.settle_at.new.chip c.chip-item.result
      c.settle_at.ensures.asked
      ∙ c.loop-i.invariant.asked;
}

pub returns : goal.returns
returns g c =
    let long : length c.loop-i.chip-items ≡ length c.args.rack.now.items = rw c.deref_mut-chip-items.ensures.value at c.loop-i.auto.chip-items in
    let count : length c.args.rack.now.items ≡ vec_len c.args.rack.now = rw c.deref_mut-chip-items.ensures.value at c.deref_mut-chip-items.ensures.len in
    let past : length c.args.rack.now.items ≤ c.loop-i.i = rw c.deref_mut-chip-items.ensures.value at c.loop-i-test.false in
    record {
      settled = changed-written (λ b. (goal.Chip-dyn g (b.vtable, b.value)).state b.value)
          (SettlesStep c.args.cycle.now.romc c.args.cycle.now.long c.args.cycle.now.first c.args.byte)
          c.args.rack.now.items c.loop-i.chip-items _ c.loop-i.i count long past
          (rw c.deref_mut-chip-items.ensures.value at c.loop-i.invariant.settled);
      asked = ap (map (λ b. (goal.Chip-dyn g (b.vtable, b.value)).queries b.value))
          (whole_again _ c.args.rack.now.items c.loop-i.chip-items count long)
          ∙ (rw c.deref_mut-chip-items.ensures.value at c.loop-i.invariant.asked);
      chips = ap length (whole_again _ c.args.rack.now.items c.loop-i.chip-items count long) ∙ long;
    }
