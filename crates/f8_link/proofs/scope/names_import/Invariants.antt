use Rattle.std.proofs.Common.{◌≡◌, drop}
use Rattle.f8_link.specs.Evaluation.{names_import}
use Rattle.f8_link.proofs.scope.names_import.Given as goal

-- no import has been passed
abbrev pub invariant-loop-step : goal.invariant-loop-step
invariant-loop-step l = names_import l.imports (drop l.step-index l.step-items) ≡ names_import l.imports l.step-items
