use Rattle.std.proofs.Common.{◌≡◌, ◌<◌, Some, arith, length, sym, ◌∙◌}
use Rattle.cartridge.specs.Plans.{seen_chips}
use Rattle.cartridge.proofs.PlannedChips.{length-seen_chips}
use Rattle.cartridge.proofs.Finished.{none_finished, one_finished, none_to_finish, first_unfilled, none_unfilled, all_finished}
use Rattle.cartridge.proofs.finish.finished_specs.Goals as goal
use Rattle.cartridge.proofs.finish.finished_specs.Goals.{After-take, in-Some+else-not-rom, in_default}

within : (c : After-take) → c.loop-index.index < length (seen_chips c.args.specs.items c.args.sources.items)
within c =
    let size = length-seen_chips c.args.specs.items c.args.sources.items c.requires.paired in
    let below = c.loop-index-test.true in
    let end = c.len-index-end.ensures in
    let whole = c.args.specs.ok.0 in
    omega (arith, size, below, end, whole)

pub loop-index-init : goal.loop-index-init
loop-index-init c = none_finished c.args.specs.items c.args.sources.items c.requires.paired

pub returns-then-not-rom : goal.returns-then-not-rom
returns-then-not-rom c =
    first_unfilled (seen_chips c.args.specs.items c.args.sources.items) c.loop-index.index c.loop-index.specs.items c.loop-index.sources.items c.in-Some.rom
    c.loop-index.invariant (within (goal.at.returns-then-not-rom c).After-take)
    (sym (rw (sym c.take.ensures.value ∙ c.in-Some.is) at c.index_mut.ensures.value))
    c.if-not-rom.true

pub loop-index-preserved : goal.loop-index-preserved
loop-index-preserved c =
    let below = within (goal.at.loop-index-preserved c).After-take in
    elim c.match-take.branch [
      | in-Some+else-not-rom w ↦
          rw (w.specs-is, c.take.ensures.after, w.set_rom.ensures)
          (one_finished (seen_chips c.args.specs.items c.args.sources.items) c.loop-index.index c.loop-index.specs.items c.loop-index.sources.items
          w.index_mut-in-Some.result.now (Some w.in-Some.rom) c.loop-index.invariant below (sym w.index_mut-in-Some.ensures.value)
          (sym (rw (sym c.take.ensures.value ∙ w.in-Some.is) at c.index_mut.ensures.value)) w.if-not-rom.false)
      | in_default w ↦
          rw (w.specs-is, c.take.ensures.after)
          (none_to_finish (seen_chips c.args.specs.items c.args.sources.items) c.loop-index.index c.loop-index.specs.items c.loop-index.sources.items
          c.loop-index.invariant below (sym (rw (sym c.take.ensures.value ∙ w.in_default.is) at c.index_mut.ensures.value)))
    ]

pub returns : goal.returns
returns c =
    let size = length-seen_chips c.args.specs.items c.args.sources.items c.requires.paired in
    let whole = c.args.specs.ok.0 in
    let end : c.loop-index.index ≡ length (seen_chips c.args.specs.items c.args.sources.items) = omega (arith, size, c.len-index-end.ensures, whole) in (
      none_unfilled (seen_chips c.args.specs.items c.args.sources.items) c.loop-index.index c.loop-index.specs.items
          c.loop-index.sources.items c.loop-index.invariant end,
      all_finished (seen_chips c.args.specs.items c.args.sources.items) c.loop-index.index c.loop-index.specs.items
          c.loop-index.sources.items c.loop-index.invariant end,
    )
