use Rattle.std.proofs.Common.{◌≡◌, Ok, Err, rules}
use Rattle.f8_link.specs.Linking.{marked}
use Rattle.f8_link.proofs.EachPart.{all_done, one_more, stopped}
use Rattle.f8_link.proofs.PartsInside.{next_inside, part_inside}
use Rattle.f8_link.proofs.linker.all_marked.Goals as goal

pub mark_part-requires-clause-inside : goal.mark_part-requires-clause-inside
mark_part-requires-clause-inside c =
    let next = next_inside c.args.parts.now c.loop-number.number c.loop-number.invariant.1 c.index-parts-number.result c.loop-number-test.true
    c.index-parts-number.is in
    rw c.bytes.ensures (part_inside c.index-parts-number.result next.here)

pub returns-in-Err : goal.returns-in-Err
unfolding marked
returns-in-Err c =
    let told : marked c.loop-number.marks.items c.index-parts-number.result ≡ Err c.in-Err.cause = search rules in
    rw c.stop_in.ensures
    (stopped (λ number. marked) c.args.parts.now c.loop-number.number c.loop-number.invariant.0 c.index-parts-number.result
    c.loop-number-test.true c.index-parts-number.is c.in-Err.cause told)

pub loop-number-preserved : goal.loop-number-preserved
unfolding marked
loop-number-preserved c =
    let told : marked c.loop-number.marks.items c.index-parts-number.result ≡ Ok c.mark_part.new.marks.items = search rules in
    let next = next_inside c.args.parts.now c.loop-number.number c.loop-number.invariant.1 c.index-parts-number.result c.loop-number-test.true
    c.index-parts-number.is in (
      one_more (λ number. marked) c.args.parts.now c.loop-number.number c.loop-number.invariant.0 c.index-parts-number.result c.loop-number-test.true
          c.index-parts-number.is c.mark_part.new.marks.items told,
      next.behind,
      c.mark_part.ensures.addresses,
    )

pub returns : goal.returns
returns c = all_done (λ number. marked) c.args.parts.now c.loop-number.number c.loop-number.invariant.0 c.loop-number-test.false
