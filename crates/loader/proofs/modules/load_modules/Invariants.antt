-- The modules so far are there.
use Rattle.std.proofs.Common.{◌≡◌, length, Ok}
use Rattle.loader.specs.Games.{parts_up_to}
use Rattle.loader.specs.Works.{Works}
use Rattle.loader.proofs.modules.load_modules.Given as goal

abbrev pub invariant-loop-number : goal.invariant-loop-number
invariant-loop-number g l = record {
  works : Works (g.S.Store.input l.fn.store) (g.S.Store.input l.store) (parts_up_to l.number l.fn.modules) (Ok l.parts);
  size : length l.parts ≡ l.number;
}
