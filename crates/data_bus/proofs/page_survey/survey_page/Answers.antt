-- One chip more is looked at.
use Rattle.std.proofs.Common.{◌∙◌, ap}
use Rattle.std.proofs.Math.Seq.{map-set_same}
use Rattle.f8_spec.specs.declared.bus.BusRule.TheVariants.{Read, Store}
use Rattle.data_bus.specs.Questions.{AskedAtMost}
use Rattle.data_bus.specs.declared.page_survey.Seen.{Seen}
use Rattle.data_bus.proofs.Questions.{kept-at}
use Rattle.data_bus.proofs.Racks.{changed-more}
use Rattle.data_bus.proofs.Surveying.{seat-at, surveyed-more, any-more}
use Rattle.data_bus.proofs.page_survey.survey_page.Goals as goal

pub loop-i-preserved : goal.loop-i-preserved
loop-i-preserved g c =
    let here = seat-at _ c.loop-i.i _ (kept-at (λ b. (goal.Chip-dyn g (b.vtable, b.value)).state b.value) c.loop-i.i
    c.deref_mut-chip-items.result.now c.loop-i.chip-items c.chip-item.result c.loop-i-test.true c.loop-i.auto.chip-items c.loop-i.invariant.stays) in
    record {
      holders = surveyed-more Read _ _ c.loop-i.i _ c.look-seen.result.holds c.loop-i.holders c.with_if-holders.result here c.loop-i.invariant.holders
          (ap (λ (seen : Seen). seen.holds) c.look-seen.ensures.answer) c.with_if-holders.ensures.listed
          c.with_if-holders.ensures.several;
      takers = surveyed-more Store _ _ c.loop-i.i _ c.look-seen.result.takes c.loop-i.takers c.with_if-takers.result here c.loop-i.invariant.takers
          (ap (λ (seen : Seen). seen.takes) c.look-seen.ensures.answer) c.with_if-takers.ensures.listed
          c.with_if-takers.ensures.several;
      parted = any-more _ _ c.loop-i.i _ c.loop-i.is_parted c.look-seen.result.parts here
          (ap (λ (seen : Seen). seen.parts) c.look-seen.ensures.answer) c.loop-i.invariant.parted;
      stays = map-set_same (λ b. (goal.Chip-dyn g (b.vtable, b.value)).state b.value) c.loop-i.chip-items c.loop-i.i
          c.look-seen.new.chip c.chip-item.result c.look-seen.ensures.stays ∙ c.loop-i.invariant.stays;
      asked = changed-more (λ b. (goal.Chip-dyn g (b.vtable, b.value)).queries b.value) (AskedAtMost 2)
          c.deref_mut-chip-items.result.now c.loop-i.chip-items c.loop-i.i c.chip-item.result c.look-seen.new.chip
          c.loop-i-test.true c.loop-i.auto.chip-items c.loop-i.invariant.asked c.look-seen.ensures.asked;
    }
