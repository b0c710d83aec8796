-- The sources of the chips so far have their images.
use Rattle.std.proofs.Common.{◌≡◌, length, Ok}
use Rattle.loader.specs.Games.{filled_up_to}
use Rattle.loader.specs.Works.{Works}
use Rattle.loader.proofs.SourcesFilled.{NoneWants}
use Rattle.loader.proofs.sources.fill_sources.Given as goal

abbrev pub invariant-loop-chip : goal.invariant-loop-chip
invariant-loop-chip g l = record {
  works : Works (g.S.Store.input l.fn.store) (g.S.Store.input l.store) (filled_up_to l.chip l.fn.plan) (Ok l.plan);
  none : NoneWants l.chip l.plan.chips;
  size : length l.plan.chips ≡ length l.fn.plan.chips;
}
