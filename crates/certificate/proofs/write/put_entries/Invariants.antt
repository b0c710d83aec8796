-- What is told so far, and the lines of the points that are left, are those of all. Where the points that are left are within their ranges,
-- all are.
use Rattle.std.proofs.Common.{◌≡◌, ◌++◌}
use Rattle.abs_step.specs.StatesAtPoints.{states_of}
use Rattle.certificate.specs.CertificateLaws.{AllInRange}
use Rattle.certificate.specs.CertificateText.{entries_text}
use Rattle.certificate.proofs.write.put_entries.Given as goal

abbrev pub invariant-loop-point : goal.invariant-loop-point
invariant-loop-point l = record {
  text : l.out.items ++ entries_text l.tracked (states_of l.point-iterator)
      ≡ l.initial.out.items ++ entries_text l.tracked (states_of l.notes.entries);
  ranges : AllInRange (states_of l.point-iterator) → AllInRange (states_of l.notes.entries);
}
