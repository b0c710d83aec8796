-- The instruction's end is among the steps that are left.
use Rattle.std.proofs.Common.{◌≡◌, drop}
use Rattle.bus_audit.specs.Answers.{steps_of}
use Rattle.bus_audit.specs.ReadInputs.{from_end}
use Rattle.bus_audit.proofs.inputs.interrupting_at_end.Given as goal

abbrev pub invariant-loop-at : goal.invariant-loop-at
invariant-loop-at l = from_end (steps_of (drop l.at l.rest)) ≡ from_end (steps_of l.rest)
