-- The way joins the one at its exit, or comes behind the others.
use Rattle.std.proofs.Common.{◌≡◌, sym, ap, ◌∙◌, arith}
use Rattle.arrayvec.specs.ArrayVec.{array_vec_len}
use Rattle.abs_step.specs.WaysOn.{with_way}
use Rattle.abs_step.proofs.AddedWays.{joined_there, joined_behind}
use Rattle.abs_step.proofs.ways.add.Goals as goal

pub returns-then-is_same-clause-list : goal.returns-then-is_same-clause-list
returns-then-is_same-clause-list c =
    let same : array_vec_len c.loop-place.ways ≡ array_vec_len c.args.ways.now = ap (λ ways. array_vec_len ways) c.loop-place.invariant.0 in
    joined_there c.args.way c.loop-place.ways.items c.deref.result.now c.deref_mut.result.now c.loop-place.place c.common.result
    c.deref.ensures.0 c.deref_mut.ensures.value (omega (arith, same)) c.loop-place.invariant.1 (sym c.is_same.ensures ∙ c.if-is_same.true)
    c.common.ensures
    ∙ ap (λ ways. with_way c.args.way ways.items) c.loop-place.invariant.0

pub returns-clause-list : goal.returns-clause-list
returns-clause-list c =
    let same : array_vec_len c.loop-place.ways ≡ array_vec_len c.args.ways.now = ap (λ ways. array_vec_len ways) c.loop-place.invariant.0 in
    c.push.ensures.items
    ∙ joined_behind c.args.way c.loop-place.ways.items (λ j small. c.loop-place.invariant.1 j (omega (arith, same)))
    ∙ ap (λ ways. with_way c.args.way ways.items) c.loop-place.invariant.0
