use Rattle.std.proofs.Common.{◌≡◌, ◌++◌, ◌∷◌, [], Ok, rules}
use Rattle.f8_link.specs.Linking.{imports_given, imports_added}
use Rattle.f8_link.proofs.EachPart.{all_done, one_more, stopped_by}
use Rattle.f8_link.proofs.LinkSteps.{says_then}
use Rattle.f8_link.proofs.linker.all_imports.Goals as goal

pub returns-in-Err : goal.returns-in-Err
returns-in-Err c =
    rw c.stop_in.ensures
    (stopped_by (λ number. imports_added c.args.names.now) c.args.parts.now c.loop-number.number c.loop-number.invariant c.index-parts-number.result
    c.loop-number-test.true c.index-parts-number.is c.in-Err.stop
    (says_then (imports_given c.args.names.now c.index-parts-number.result) (λ values. Ok (c.loop-number.all.items ++ values ∷ [])) c.in-Err.stop
    c.in-Err.ensures))

pub loop-number-preserved : goal.loop-number-preserved
loop-number-preserved c =
    let told : imports_added c.args.names.now c.loop-number.all.items c.index-parts-number.result ≡ Ok c.push.new.self.items = search rules in
    one_more (λ number. imports_added c.args.names.now) c.args.parts.now c.loop-number.number c.loop-number.invariant c.index-parts-number.result
    c.loop-number-test.true c.index-parts-number.is c.push.new.self.items told

pub returns : goal.returns
returns c = all_done (λ number. imports_added c.args.names.now) c.args.parts.now c.loop-number.number c.loop-number.invariant c.loop-number-test.false
