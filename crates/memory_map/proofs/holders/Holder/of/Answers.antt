use Rattle.memory_map.specs.Holders.{seen, page_view}
use Rattle.memory_map.proofs.Holding.{Counted-all, Counted-one, Counted-skip}
use Rattle.memory_map.proofs.holders.Holder.of.Goals as goal
use Rattle.memory_map.proofs.holders.Holder.of.Goals.{in-Some, in_default}

pub loop-owner-preserved : goal.loop-owner-preserved
loop-owner-preserved c =
    elim c.match-chip_page.branch [
      | in-Some w ↦
          let held = w.in-Some.ensures in
          rw w.holder-is (
          Counted-one c.args.number c.args.chips.now (seen c.loop-owner.holder) (seen w.and_one-holder.result) c.loop-owner.owner (page_view w.in-Some.page)
          c.index-chips-owner.result c.loop-owner-test.true (rw (← c.index-chips-owner.is) held) w.and_one-holder.ensures c.loop-owner.invariant)
      | in_default w ↦
          rw w.holder-is (
          Counted-skip c.args.number c.args.chips.now (seen c.loop-owner.holder) c.loop-owner.owner c.index-chips-owner.result c.loop-owner-test.true
          (rw (← c.index-chips-owner.is) w.in_default.ensures) c.loop-owner.invariant)
    ]

pub returns : goal.returns
returns c = Counted-all c.args.number c.args.chips.now (seen c.loop-owner.holder) c.loop-owner.owner c.loop-owner-test.false c.loop-owner.invariant
