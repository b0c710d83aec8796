use Rattle.f8_link.specs.Linking.{exports_given}
use Rattle.f8_link.proofs.EachPart.{all_done, one_more, stopped_by}
use Rattle.f8_link.proofs.LinkSteps.{says_stop}
use Rattle.f8_link.proofs.linker.all_exports.Goals as goal

pub returns-in-Err : goal.returns-in-Err
returns-in-Err c =
    rw c.stop_in.ensures
    (stopped_by (λ number. exports_given) c.args.parts.now c.loop-number.number c.loop-number.invariant c.index-parts-number.result
    c.loop-number-test.true c.index-parts-number.is c.in-Err.stop (says_stop c.in-Err.stop c.give_exports.new.names _ c.in-Err.ensures))

pub loop-number-preserved : goal.loop-number-preserved
loop-number-preserved c =
    one_more (λ number. exports_given) c.args.parts.now c.loop-number.number c.loop-number.invariant c.index-parts-number.result
    c.loop-number-test.true c.index-parts-number.is c.give_exports.new.names c.in-Ok.ensures

pub returns : goal.returns
returns c = all_done (λ number. exports_given) c.args.parts.now c.loop-number.number c.loop-number.invariant c.loop-number-test.false
