-- Each chip is powered, and the chips behind it are as they were.
use Rattle.std.proofs.Common.{length, ◌≤◌, ◌≡◌, ◌∙◌, ap, vec_len}
use Rattle.data_bus.proofs.Racks.{changed-none, changed-more, changed-written, whole_again}
use Rattle.bus_rows.specs.Indexed.{HasAddresses}
use Rattle.bus_rows.proofs.bus.power_all.Goals as goal

pub loop-socket-init : goal.loop-socket-init
loop-socket-init g c = changed-none _ _

pub loop-socket-preserved : goal.loop-socket-preserved
loop-socket-preserved g c =
    changed-more (λ b. (goal.Chip-dyn g (b.vtable, b.value)).state b.value) HasAddresses
    c.deref_mut-chip-items.result.now c.loop-socket.chip-items c.loop-socket.socket c.chip-item.result
    c.power_at.new.chip c.loop-socket-test.true c.loop-socket.auto.chip-items c.loop-socket.invariant
    c.power_at.ensures

pub returns : goal.returns
returns g c =
    let long : length c.loop-socket.chip-items ≡ length c.args.rack.now.items =
    rw c.deref_mut-chip-items.ensures.value at c.loop-socket.auto.chip-items in
    let count : length c.args.rack.now.items ≡ vec_len c.args.rack.now =
    rw c.deref_mut-chip-items.ensures.value at c.deref_mut-chip-items.ensures.len in
    let past : length c.args.rack.now.items ≤ c.loop-socket.socket =
    rw c.deref_mut-chip-items.ensures.value at c.loop-socket-test.false in
    record {
      powered = changed-written (λ b. (goal.Chip-dyn g (b.vtable, b.value)).state b.value) HasAddresses
          c.args.rack.now.items c.loop-socket.chip-items _ c.loop-socket.socket count long past
          (rw c.deref_mut-chip-items.ensures.value at c.loop-socket.invariant);
      chips = ap length (whole_again _ c.args.rack.now.items c.loop-socket.chip-items count long) ∙ long;
    }
