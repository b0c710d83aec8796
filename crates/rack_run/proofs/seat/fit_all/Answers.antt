-- Each chip is fitted by its socket, and the chips behind it are as they were.
use Rattle.std.proofs.Common.{◌≡◌, ◌∙◌, ◌<◌, ◌≤◌, length, map, refl, ap, vec_len, arith, add-one}
use Rattle.std.proofs.Math.ListN.{length-set, set}
use Rattle.std.proofs.Math.Seq.{map-set_same}
use Rattle.data_bus.proofs.Racks.{changed-none, changed-more, changed-written, unchanged_at, whole_again}
use Rattle.rack_run.specs.Seating.{so_far, no_sockets}
use Rattle.rack_run.proofs.CountedKinds.{count_most, seated_alike}
use Rattle.rack_run.proofs.Seats.{counted_here, counted_more, kinds_from, all_whole, all_leave, fits_seated}
use Rattle.rack_run.proofs.Seats.{views_fitted, partly_written}
use Rattle.std.proofs.lemmas.Result.{err_from_is_err_and}
use Rattle.rack_run.proofs.seat.fit_all.Goals as goal

pub loop-chip-init : goal.loop-chip-init
loop-chip-init g c = record {
  few = λ kind. omega (arith, c.new-sockets.ensures kind);
  counted = record { left = seated_alike c.as_slice-chips.result.now no_sockets (so_far c.new-sockets.result) _ c.new-sockets.ensures };
  changed = changed-none _ _;
  asked = refl;
}

pub fit_next-requires-clause-few : goal.fit_next-requires-clause-few
fit_next-requires-clause-few g c kind =
    let within : c.loop-chip.chip-index < length c.args.rack.now.items =
    rw c.deref_mut-chip-items.ensures.value at c.loop-chip-test.true in
    omega (arith, within, c.requires.few, c.loop-chip.invariant.few kind)

pub loop-chip-preserved : goal.loop-chip-preserved
loop-chip-preserved g c =
    let here =
    unchanged_at (λ b. (goal.Chip-dyn g (b.vtable, b.value)).state b.value) _ c.deref_mut-chip-items.result.now
    c.loop-chip.chip-items c.loop-chip.chip-index c.chip-item.result
    c.loop-chip-test.true c.loop-chip.auto.chip-items c.loop-chip.invariant.changed in
    let kinds = kinds_from _ c.loop-chip.chip-index _ here in
    let seat =
    counted_here c.as_slice-chips.result.now _ _ c.loop-chip.chip-index (so_far c.loop-chip.sockets) _ _ kinds
    c.loop-chip.invariant.counted in
    record {
      few = λ kind.
          let most =
          count_most _ kind (so_far c.loop-chip.sockets) (so_far c.fit_next.new.sockets) (c.fit_next.ensures.counted kind) in
          omega (arith, most, c.loop-chip.invariant.few kind);
      counted = rw add-one
          (counted_more c.as_slice-chips.result.now _ _ c.loop-chip.chip-index (so_far c.loop-chip.sockets)
          (so_far c.fit_next.new.sockets) _ _ kinds c.loop-chip.invariant.counted c.fit_next.ensures.counted);
      changed =
          changed-more (λ b. (goal.Chip-dyn g (b.vtable, b.value)).state b.value) _ c.deref_mut-chip-items.result.now
          c.loop-chip.chip-items c.loop-chip.chip-index c.chip-item.result
          c.fit_next.new.chip c.loop-chip-test.true c.loop-chip.auto.chip-items c.loop-chip.invariant.changed
          (fits_seated _ c.loop-chip.chip-index _ _ _ seat c.in_ok-fit_next.ensures.fits c.in_ok-fit_next.ensures.whole
          c.in_ok-fit_next.ensures.ports);
      asked = map-set_same (λ b. (goal.Chip-dyn g (b.vtable, b.value)).queries b.value) c.loop-chip.chip-items
          c.loop-chip.chip-index c.fit_next.new.chip c.chip-item.result c.fit_next.ensures.asked
          ∙ c.loop-chip.invariant.asked;
    }

pub returns-clause-fitted : goal.returns-clause-fitted
returns-clause-fitted g c =
    let long : length c.loop-chip.chip-items ≡ length c.args.rack.now.items =
    rw c.deref_mut-chip-items.ensures.value at c.loop-chip.auto.chip-items in
    let count : length c.args.rack.now.items ≡ vec_len c.args.rack.now =
    rw c.deref_mut-chip-items.ensures.value at c.deref_mut-chip-items.ensures.len in
    let past : length c.args.rack.now.items ≤ c.loop-chip.chip-index =
    rw c.deref_mut-chip-items.ensures.value at c.loop-chip-test.false in
    let fitted =
    changed-written (λ b. (goal.Chip-dyn g (b.vtable, b.value)).state b.value) _ c.args.rack.now.items
    c.loop-chip.chip-items _
    c.loop-chip.chip-index count long past
    (rw c.deref_mut-chip-items.ensures.value at c.loop-chip.invariant.changed) in
    rw c.as_slice-chips.ensures.chips at fitted

pub returns-clause-whole : goal.returns-clause-whole
returns-clause-whole g c =
    let long : length c.loop-chip.chip-items ≡ length c.args.rack.now.items =
    rw c.deref_mut-chip-items.ensures.value at c.loop-chip.auto.chip-items in
    let count : length c.args.rack.now.items ≡ vec_len c.args.rack.now =
    rw c.deref_mut-chip-items.ensures.value at c.deref_mut-chip-items.ensures.len in
    let past : length c.args.rack.now.items ≤ c.loop-chip.chip-index =
    rw c.deref_mut-chip-items.ensures.value at c.loop-chip-test.false in
    let fitted =
    changed-written (λ b. (goal.Chip-dyn g (b.vtable, b.value)).state b.value) _ c.args.rack.now.items
    c.loop-chip.chip-items _
    c.loop-chip.chip-index count long past
    (rw c.deref_mut-chip-items.ensures.value at c.loop-chip.invariant.changed) in
    all_whole _ _ _ fitted

pub returns-clause-ports : goal.returns-clause-ports
returns-clause-ports g c =
    let long : length c.loop-chip.chip-items ≡ length c.args.rack.now.items =
    rw c.deref_mut-chip-items.ensures.value at c.loop-chip.auto.chip-items in
    let count : length c.args.rack.now.items ≡ vec_len c.args.rack.now =
    rw c.deref_mut-chip-items.ensures.value at c.deref_mut-chip-items.ensures.len in
    let past : length c.args.rack.now.items ≤ c.loop-chip.chip-index =
    rw c.deref_mut-chip-items.ensures.value at c.loop-chip-test.false in
    let fitted =
    changed-written (λ b. (goal.Chip-dyn g (b.vtable, b.value)).state b.value) _ c.args.rack.now.items
    c.loop-chip.chip-items _
    c.loop-chip.chip-index count long past
    (rw c.deref_mut-chip-items.ensures.value at c.loop-chip.invariant.changed) in
    all_leave _ _ _ fitted

pub returns-clause-views : goal.returns-clause-views
returns-clause-views g c =
    let long : length c.loop-chip.chip-items ≡ length c.args.rack.now.items =
    rw c.deref_mut-chip-items.ensures.value at c.loop-chip.auto.chip-items in
    let count : length c.args.rack.now.items ≡ vec_len c.args.rack.now =
    rw c.deref_mut-chip-items.ensures.value at c.deref_mut-chip-items.ensures.len in
    let past : length c.args.rack.now.items ≤ c.loop-chip.chip-index =
    rw c.deref_mut-chip-items.ensures.value at c.loop-chip-test.false in
    let fitted =
    changed-written (λ b. (goal.Chip-dyn g (b.vtable, b.value)).state b.value) _ c.args.rack.now.items
    c.loop-chip.chip-items _
    c.loop-chip.chip-index count long past
    (rw c.deref_mut-chip-items.ensures.value at c.loop-chip.invariant.changed) in
    views_fitted c.args.chips.now _ _ (rw c.as_slice-chips.ensures.chips at fitted)

pub returns-in_err-fit_next-clause-partly : goal.returns-in_err-fit_next-clause-partly
returns-in_err-fit_next-clause-partly g c =
    let p = err_from_is_err_and c.from_residual.result c.from_residual.ensures.1 in
    let count : length c.args.rack.now.items ≡ vec_len c.args.rack.now =
    rw c.deref_mut-chip-items.ensures.value at c.deref_mut-chip-items.ensures.len in
    let long : length c.loop-chip.chip-items ≡ length c.args.rack.now.items =
    rw c.deref_mut-chip-items.ensures.value at c.loop-chip.auto.chip-items in
    let within : c.loop-chip.chip-index < length c.args.rack.now.items =
    rw c.deref_mut-chip-items.ensures.value at c.loop-chip-test.true in
    let so_far =
    rw (c.deref_mut-chip-items.ensures.value, c.as_slice-chips.ensures.chips) at c.loop-chip.invariant.changed in
    rw p.1
    (partly_written (λ b. (goal.Chip-dyn g (b.vtable, b.value)).state b.value) _ c.args.rack.now.items
    c.loop-chip.chip-items _ c.loop-chip.chip-index c.chip-item.result c.fit_next.new.chip count long within so_far
    c.in_err-fit_next.ensures.same)

pub returns-clause-asked : goal.returns-clause-asked
returns-clause-asked g c =
    let long : length c.loop-chip.chip-items ≡ length c.args.rack.now.items =
    rw c.deref_mut-chip-items.ensures.value at c.loop-chip.auto.chip-items in
    let count : length c.args.rack.now.items ≡ vec_len c.args.rack.now =
    rw c.deref_mut-chip-items.ensures.value at c.deref_mut-chip-items.ensures.len in
    ap (map (λ b. (goal.Chip-dyn g (b.vtable, b.value)).queries b.value))
    (whole_again _ c.args.rack.now.items c.loop-chip.chip-items count long)
    ∙ (rw c.deref_mut-chip-items.ensures.value at c.loop-chip.invariant.asked)

pub returns-in_err-fit_next-clause-asked : goal.returns-in_err-fit_next-clause-asked
returns-in_err-fit_next-clause-asked g c =
    let long : length c.loop-chip.chip-items ≡ length c.args.rack.now.items =
    rw c.deref_mut-chip-items.ensures.value at c.loop-chip.auto.chip-items in
    let count : length c.args.rack.now.items ≡ vec_len c.args.rack.now =
    rw c.deref_mut-chip-items.ensures.value at c.deref_mut-chip-items.ensures.len in
    let written : length (set c.loop-chip.chip-items c.loop-chip.chip-index c.fit_next.new.chip) ≡ length c.args.rack.now.items =
    length-set c.loop-chip.chip-items c.loop-chip.chip-index c.fit_next.new.chip ∙ long in
    ap (map (λ b. (goal.Chip-dyn g (b.vtable, b.value)).queries b.value))
    (whole_again _ c.args.rack.now.items (set c.loop-chip.chip-items c.loop-chip.chip-index c.fit_next.new.chip) count written)
    ∙ map-set_same (λ b. (goal.Chip-dyn g (b.vtable, b.value)).queries b.value) c.loop-chip.chip-items
    c.loop-chip.chip-index c.fit_next.new.chip c.chip-item.result c.fit_next.ensures.asked
    ∙ (rw c.deref_mut-chip-items.ensures.value at c.loop-chip.invariant.asked)
