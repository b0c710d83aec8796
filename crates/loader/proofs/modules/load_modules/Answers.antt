-- One module more is there.
use Rattle.std.proofs.Common.{◌≡◌, ◌∙◌, ◌+◌, ◌<◌, length, refl, ap, arith}
use Rattle.std.proofs.lemmas.Result.{err_from_is_err_and}
use Rattle.f8_link.specs.Plans.{module_seen}
use Rattle.loader.proofs.ModulesLoaded.{all_parts, as_many, next_part, no_part, parts_stop, planned_at}
use Rattle.loader.proofs.modules.load_modules.Goals as goal

pub loop-number-init : goal.loop-number-init
loop-number-init g c = record {
  works = rw c.new-parts.ensures (no_part _ c.args.modules.now);
  size = rw c.new-parts.ensures refl;
}

pub loop-number-preserved : goal.loop-number-preserved
loop-number-preserved g c =
    let so_far = c.loop-number.invariant in
    let here = planned_at _ _ _ _ c.as_slice-line-items.ensures.lines c.loop-number-test.true c.line-item.is in
    record {
      works = next_part _ _ _ c.loop-number.number c.args.modules.now (module_seen c.line-item.result) c.loop-number.parts c.in_ok-parts.parts here
          so_far.works c.in_ok-parts.ensures.works;
      size = c.in_ok-parts.ensures.more ∙ ap (λ n. n + 1) so_far.size;
    }

pub returns-in_err-parts-clause-works : goal.returns-in_err-parts-clause-works
returns-in_err-parts-clause-works g c =
    let stopped = err_from_is_err_and c.from_residual.result c.from_residual.ensures.1 in
    let here = planned_at _ _ _ _ c.as_slice-line-items.ensures.lines c.loop-number-test.true c.line-item.is in
    let many = as_many _ _ c.as_slice-line-items.ensures.lines in
    let within = c.loop-number-test.true in
    let below : c.loop-number.number < length c.args.modules.now = omega (arith, many, within) in
    rw (stopped.1, stopped.2)
    (parts_stop _ _ _ c.loop-number.number c.args.modules.now (module_seen c.line-item.result) c.loop-number.parts _ below here
    c.loop-number.invariant.works c.in_err-parts.ensures.works c.in_err-parts.ensures.order)

pub returns-clause-works : goal.returns-clause-works
returns-clause-works g c =
    let many = as_many _ _ c.as_slice-line-items.ensures.lines in
    let past = c.loop-number-test.false in
    let end = c.loop-number.auto.number-end in
    let all : c.loop-number.number ≡ length c.args.modules.now = omega (arith, many, past, end) in
    all_parts _ _ c.loop-number.number c.args.modules.now c.loop-number.parts all c.loop-number.invariant.works
