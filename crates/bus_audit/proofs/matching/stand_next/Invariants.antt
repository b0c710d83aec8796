-- The steps so far are what stands next.
use Rattle.std.proofs.Common.{◌≡◌, drop}
use Rattle.bus_audit.specs.Answers.{steps_of}
use Rattle.bus_audit.specs.Turns.{heard_told, stand_next}
use Rattle.bus_audit.proofs.matching.stand_next.Given as goal

abbrev pub invariant-loop-at : goal.invariant-loop-at
invariant-loop-at l =
    stand_next (heard_told (drop l.at l.served)) (steps_of (drop l.at l.rest))
    ≡ stand_next (heard_told l.served) (steps_of l.rest)
