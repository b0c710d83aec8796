-- one register after another
use Rattle.std.proofs.Common.{◌≡◌, length, rules}
use Rattle.noted_cases.proofs.NotedLoops.{one_set_more, all_sets}
use Rattle.noted_cases.proofs.noted.byte_sets.Goals as goal

pub loop-number-preserved : goal.loop-number-preserved
loop-number-preserved c =
    let whole : length c.args.known.now ≡ 64 = search rules in
    one_set_more c.loop-number.sets c.args.known.now c.loop-number.number c.byte_set.result _ c.loop-number.invariant.0 whole
    c.loop-number-test.true c.loop-number.invariant.1 c.byte_set.ensures

pub returns : goal.returns
returns c =
    let whole : length c.args.known.now ≡ 64 = search rules in
    all_sets c.loop-number.sets c.args.known.now c.loop-number.number c.loop-number.invariant.0 whole c.loop-number-test.false
    c.loop-number.invariant.1
