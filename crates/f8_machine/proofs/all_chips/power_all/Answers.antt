-- Each chip is powered by its socket, and the chips behind it are as they were.
use Rattle.std.proofs.Common.{length, map, refl, ◌≤◌, ◌≡◌, ◌∙◌, ap, vec_len}
use Rattle.std.proofs.Math.Seq.{map-set_same}
use Rattle.data_bus.proofs.Racks.{changed-none, changed-more, changed-written, whole_again}
use Rattle.console_spec.specs.Powering.{fill_in, start_in}
use Rattle.f8_machine.specs.Rounds.{PowersInSocket}
use Rattle.f8_machine.proofs.all_chips.power_all.Goals as goal

pub loop-socket-init : goal.loop-socket-init
loop-socket-init g c = record { changed = changed-none _ _; asked = refl }

pub loop-socket-preserved : goal.loop-socket-preserved
loop-socket-preserved g c = record {
  changed = changed-more (λ b. (goal.Chip-dyn g (b.vtable, b.value)).state b.value) (PowersInSocket (fill_in c.args.fill c.args.chain.now c.args.powers.now)
      (start_in c.args.fill c.args.chain.now c.args.powers.now))
      c.deref_mut-chip-items.result.now c.loop-socket.chip-items c.loop-socket.socket c.chip-item.result
      c.power_at.new.chip c.loop-socket-test.true c.loop-socket.auto.chip-items c.loop-socket.invariant.changed
      (rw c.power_for-power.ensures at c.power_at.ensures.powers);
  asked = map-set_same (λ b. (goal.Chip-dyn g (b.vtable, b.value)).queries b.value) c.loop-socket.chip-items
      c.loop-socket.socket c.power_at.new.chip c.chip-item.result c.power_at.ensures.asked ∙ c.loop-socket.invariant.asked;
}

pub returns : goal.returns
returns g c =
    let long : length c.loop-socket.chip-items ≡ length c.args.rack.now.items =
    rw c.deref_mut-chip-items.ensures.value at c.loop-socket.auto.chip-items in
    let count : length c.args.rack.now.items ≡ vec_len c.args.rack.now =
    rw c.deref_mut-chip-items.ensures.value at c.deref_mut-chip-items.ensures.len in
    let past : length c.args.rack.now.items ≤ c.loop-socket.socket =
    rw c.deref_mut-chip-items.ensures.value at c.loop-socket-test.false in
    record {
      powered = changed-written (λ b. (goal.Chip-dyn g (b.vtable, b.value)).state b.value)
          (PowersInSocket (fill_in c.args.fill c.args.chain.now c.args.powers.now)
          (start_in c.args.fill c.args.chain.now c.args.powers.now))
          c.args.rack.now.items c.loop-socket.chip-items _ c.loop-socket.socket count long past
          (rw c.deref_mut-chip-items.ensures.value at c.loop-socket.invariant.changed);
      asked = ap (map (λ b. (goal.Chip-dyn g (b.vtable, b.value)).queries b.value))
          (whole_again _ c.args.rack.now.items c.loop-socket.chip-items count long)
          ∙ (rw c.deref_mut-chip-items.ensures.value at c.loop-socket.invariant.asked);
      chips = ap length (whole_again _ c.args.rack.now.items c.loop-socket.chip-items count long) ∙ long;
    }
