-- Each turn asks one chip more.
use Rattle.std.proofs.Common.{refl, ◌∙◌, length-set, rules}
use Rattle.f8_machine.proofs.Asked.{asked_all, asked_more}
use Rattle.f8_machine.proofs.choose.asks_of.Goals as goal

pub loop-place-init : goal.loop-place-init
loop-place-init g c = record { size = refl; asked = refl }

pub loop-place-preserved : goal.loop-place-preserved
loop-place-preserved g c = record {
  size = length-set c.loop-place.asks c.loop-place.place c.asks_in.result ∙ c.loop-place.invariant.size;
  asked = asked_more _ c.args.sockets.now c.loop-place.asks c.loop-place.place c.asks_in.result c.loop-place-test.true
      c.requires c.loop-place.invariant.size c.asks_in.ensures c.loop-place.invariant.asked;
}

pub returns : goal.returns
returns g c = asked_all _ c.args.sockets.now c.loop-place.asks c.loop-place.place c.loop-place.auto.place-end
    (search rules) c.loop-place.invariant.asked
