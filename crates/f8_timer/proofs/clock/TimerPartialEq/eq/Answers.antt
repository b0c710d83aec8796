-- Timers are equal where their places and phases are.
use Rattle.std.proofs.Common.{rules}
use Rattle.f8_timer.specs.CyclePlace.{placed_back}
use Rattle.f8_timer.proofs.clock.TimerPartialEq.eq.Goals as goal

pub returns : goal.returns
returns c = search (rules, placed_back)
