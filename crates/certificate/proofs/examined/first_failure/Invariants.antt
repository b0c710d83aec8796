-- No point so far has a failure, and those that are left fit their states. Where those are within their ranges, all are.
use Rattle.std.proofs.Common.{◌≡◌}
use Rattle.abs_step.specs.MapView.{view_of}
use Rattle.abs_step.specs.StatesAtPoints.{states_of}
use Rattle.abs_step.specs.CartridgeAnalysis.{analysis}
use Rattle.certificate.specs.CertificateLaws.{AllInRange, HaveSplit}
use Rattle.certificate.specs.Examination.{first_failure}
use Rattle.certificate.proofs.examined.first_failure.Given as goal

abbrev pub invariant-loop-point : goal.invariant-loop-point
invariant-loop-point l = record {
  none : first_failure (analysis (view_of l.map) l.split) (states_of l.notes.entries) (states_of l.point-iterator)
      ≡ first_failure (analysis (view_of l.map) l.split) (states_of l.notes.entries) (states_of l.notes.entries);
  fit : HaveSplit l.split (states_of l.point-iterator);
  ranges : AllInRange (states_of l.point-iterator) → AllInRange (states_of l.notes.entries);
}
