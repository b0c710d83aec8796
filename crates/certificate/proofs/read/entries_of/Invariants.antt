-- The lines so far give the states, and the rest goes on from them behind the last point.
use Rattle.std.proofs.Common.{◌≡◌, ◌+◌, ◌-◌, length}
use Rattle.std.specs.Prelude.{None}
use Rattle.abs_step.specs.StatesAtPoints.{states_of}
use Rattle.certificate.specs.CertificateText.{entries_at}
use Rattle.certificate.proofs.EntriesRead.{with_notes, IsLast}
use Rattle.certificate.proofs.read.entries_of.Given as goal

abbrev pub invariant-loop-number : goal.invariant-loop-number
invariant-loop-number l = record {
  few : length l.notes.entries + 2 ≡ l.number;
  last : IsLast l.before l.notes.entries;
  same : with_notes (states_of l.notes.entries) (entries_at l.tracked (l.count + 2 - l.number) l.number l.before l.rest)
      ≡ entries_at l.tracked l.count 2 None l.fn.text;
}
