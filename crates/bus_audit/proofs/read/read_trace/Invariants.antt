-- The lines so far are in the trace, and each takes a byte.
use Rattle.std.proofs.Common.{◌+◌, ◌≤◌, length}
use Rattle.bus_audit.proofs.TraceReads.{Reads}
use Rattle.bus_audit.proofs.read.read_trace.Given as goal

abbrev pub invariant-loop-rest : goal.invariant-loop-rest
invariant-loop-rest l = record {
  reads : Reads l.text l.rest l.trace;
  room : l.trace.after + length l.rest ≤ length l.text + 1;
}

-- each turn leaves less
abbrev pub decreases-loop-rest : goal.decreases-loop-rest
decreases-loop-rest l = length l.rest
