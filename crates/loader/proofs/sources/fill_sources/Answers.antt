-- One chip more has its image.
use Rattle.std.proofs.Common.{◌∙◌, refl, arith}
use Rattle.std.proofs.lemmas.Result.{err_from_is_err_and}
use Rattle.loader.proofs.SourcesFilled.{none_wants_first, none_wants_more, none_wants_all, filled_length}
use Rattle.loader.proofs.GamesLoaded.{filled_start, filled_next, filled_stops}
use Rattle.loader.proofs.sources.fill_sources.Goals as goal

pub loop-chip-init : goal.loop-chip-init
loop-chip-init g c = record {
  works = filled_start _ c.args.plan;
  none = none_wants_first c.args.plan.chips;
  size = refl;
}

pub loop-chip-preserved : goal.loop-chip-preserved
loop-chip-preserved g c =
    let filled = c.in_ok-plan.ensures.filled in
    let so_far = c.loop-chip.invariant in
    record {
      works = filled_next _ _ _ c.loop-chip.chip c.args.plan c.loop-chip.plan c.in_ok-plan.plan so_far.works
          c.in_ok-plan.ensures.works;
      none = none_wants_more c.loop-chip.chip filled.0 c.loop-chip.plan c.in_ok-plan.plan filled.1 so_far.none;
      size = filled_length c.loop-chip.chip filled.0 c.loop-chip.plan c.in_ok-plan.plan filled.1 ∙ so_far.size;
    }

pub returns-in_err-plan-clause-works : goal.returns-in_err-plan-clause-works
returns-in_err-plan-clause-works g c =
    let stopped = err_from_is_err_and c.from_residual.result c.from_residual.ensures.1 in
    rw (stopped.1, stopped.2)
    (filled_stops _ _ _ c.loop-chip.chip c.args.plan c.loop-chip.plan _ c.loop-chip.invariant.works
    c.in_err-plan.ensures.works c.in_err-plan.ensures.order c.loop-chip-test.true)

pub returns-clause-filled : goal.returns-clause-filled
returns-clause-filled g c =
    let size = c.loop-chip.invariant.size in
    let few = c.requires in
    let last = c.loop-chip-test.false in
    let end = c.loop-chip.auto.chip-end in
    none_wants_all c.loop-chip.chip c.loop-chip.plan.chips (omega (arith, size, few, last, end))
    c.loop-chip.invariant.none
