-- One more event comes.
use Rattle.std.proofs.Common.{◌∙◌, [], map}
use Rattle.rack_run.proofs.AskingLaws.{asks_events}
use Rattle.rack_run.proofs.EventLaws.{come_next, at_next}
use Rattle.rack_run.proofs.events.happen_at.Goals as goal

pub loop-at-preserved : goal.loop-at-preserved
loop-at-preserved g c =
    let nows = map (λ b. (goal.Chip-dyn g (b.vtable, b.value)).state b.value) c.happen_if.new.rack.items in
    record {
      begins =
          λ x b. at_next (λ y. g.P.Player.begins c.happen_if.new.player nows y) c.args.frame c.args.events.now
          c.loop-at.at-index _ x
          c.loop-at-test.true (c.happen_if.ensures.begins _ (c.loop-at.invariant.begins x b));
      at =
          λ x a. at_next (λ y. g.P.Player.at c.happen_if.new.player nows y) c.args.frame c.args.events.now
          c.loop-at.at-index _ x
          c.loop-at-test.true (c.happen_if.ensures.at _ (c.loop-at.invariant.at x a));
      came_first =
          λ x b. come_next c.args.frame c.args.events.now c.loop-at.at-index _ x _ _ _ c.loop-at-test.true
          (c.loop-at.invariant.came_first x b)
          (c.happen_if.ensures.came_first _ (c.loop-at.invariant.begins x b));
      came =
          λ x a. come_next c.args.frame c.args.events.now c.loop-at.at-index _ x _ _ _ c.loop-at-test.true
          (c.loop-at.invariant.came x a)
          (c.happen_if.ensures.came _ (c.loop-at.invariant.at x a));
      fits = c.happen_if.ensures.fits;
      asked =
          asks_events (λ n. g.P.Player.allowed n c.args.player.now) (λ n. g.P.Player.allowed n c.loop-at.player)
          (λ n. g.P.Player.allowed n c.happen_if.new.player) _ _ _ _ _ c.loop-at.invariant.chips []
          c.loop-at.invariant.asked c.happen_if.ensures.asked;
      ready = λ was. c.happen_if.ensures.ready (c.loop-at.invariant.ready was);
      phi = c.happen_if.ensures.phi ∙ c.loop-at.invariant.phi;
      chips = c.happen_if.ensures.chips ∙ c.loop-at.invariant.chips;
    }
