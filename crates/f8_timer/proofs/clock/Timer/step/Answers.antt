-- A count down is a step of the state.
use Rattle.std.proofs.Common.{arith}
use Rattle.std.proofs.lemmas.Bool.Decides.{nat_tests}
use Rattle.f8_timer.proofs.AtPlaces.{stepped-none, stepped-last, stepped-other, expires-at}
use Rattle.f8_timer.proofs.clock.Timer.step.Goals as goal

pub returns-in-0-clause-state : goal.returns-in-0-clause-state
returns-in-0-clause-state c = rw (← c.self.view_is) (stepped-none c.self.inside.place c.self.inside.phase c.in-0.is)

pub returns-in-0-clause-expires : goal.returns-in-0-clause-expires
returns-in-0-clause-expires c = rw (← c.self.view_is) (grind (nat_tests, arith, expires-at c.self.inside.place c.self.invariant.0, c.in-0.is))

pub returns-in-1-clause-state : goal.returns-in-1-clause-state
returns-in-1-clause-state c = rw (← c.self.view_is) (stepped-last c.self.inside.place c.self.inside.phase c.in-1.is)

pub returns-in-1-clause-expires : goal.returns-in-1-clause-expires
returns-in-1-clause-expires c = rw (← c.self.view_is) (grind (nat_tests, arith, expires-at c.self.inside.place c.self.invariant.0, c.in-1.is))

pub returns-in_default-clause-state : goal.returns-in_default-clause-state
returns-in_default-clause-state c =
    rw (← c.self.view_is) (stepped-other c.self.inside.place c.self.inside.phase c.self.invariant.0 (omega (arith, c.in_default)))

pub returns-in_default-clause-expires : goal.returns-in_default-clause-expires
returns-in_default-clause-expires c = rw (← c.self.view_is) (grind (nat_tests, arith, expires-at c.self.inside.place c.self.invariant.0, c.in_default))
