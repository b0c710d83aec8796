-- The lines so far are in the trace, and then a line stops the call, or the text ends.
use Rattle.std.proofs.Common.{arith}
use Rattle.std.proofs.lemmas.Bool.Decides.{nat_tests}
use Rattle.std.proofs.lemmas.List.{nil_from_length}
use Rattle.std.proofs.lemmas.Result.{err_from_is_err_and}
use Rattle.bus_audit.specs.TraceText.{read_in}
use Rattle.bus_audit.proofs.TraceReads.{all_faultless, counts_on, reads_all, reads_more, stop_says, stop_takes, stop_tells}
use Rattle.bus_audit.proofs.TraceSizes.{trace_size}
use Rattle.bus_audit.proofs.read.read_trace.Goals as goal

pub returns-in_err-read_line-clause-says : goal.returns-in_err-read_line-clause-says
returns-in_err-read_line-clause-says c =
    let stopped = err_from_is_err_and c.from_residual.result c.from_residual.ensures.1 in
    rw (stopped.1, stopped.2)
    (stop_says c.args.text.now c.loop-rest.rest.now c.loop-rest.trace c.loop-rest.invariant.reads c.first_line.result.1.now
    c.first_line.result.0.now c.read_line.new.trace c.in_err-read_line.field-0.0 c.first_line.ensures.split
    c.in_err-read_line.ensures.steps)

pub returns-in_err-read_line-clause-fault : goal.returns-in_err-read_line-clause-fault
returns-in_err-read_line-clause-fault c =
    let stopped = err_from_is_err_and c.from_residual.result c.from_residual.ensures.1 in
    rw (stopped.1, stopped.2)
    (stop_tells c.args.text.now c.loop-rest.rest.now c.loop-rest.trace c.loop-rest.invariant.reads c.first_line.result.1.now
    c.first_line.result.0.now c.read_line.new.trace c.in_err-read_line.field-0.0 c.first_line.ensures.split
    c.in_err-read_line.ensures.steps)

pub returns-in_err-read_line-clause-memory : goal.returns-in_err-read_line-clause-memory
returns-in_err-read_line-clause-memory c =
    let stopped = err_from_is_err_and c.from_residual.result c.from_residual.ensures.1 in
    rw (stopped.1, stopped.2)
    (stop_takes c.args.text.now c.loop-rest.rest.now c.loop-rest.trace c.loop-rest.invariant.reads c.first_line.result.1.now
    c.first_line.result.0.now c.in_err-read_line.field-0.0 c.first_line.ensures.split c.in_err-read_line.ensures.memory)

pub loop-rest-preserved : goal.loop-rest-preserved
loop-rest-preserved c =
    let more = counts_on c.loop-rest.trace c.read_line.new.trace (read_in c.first_line.result.0.now) c.in_ok-read_line.ensures.steps in
    record {
      reads = reads_more c.args.text.now c.loop-rest.rest.now c.loop-rest.trace c.loop-rest.invariant.reads c.first_line.result.1.now
          c.first_line.result.0.now c.read_line.new.trace c.first_line.ensures.split c.in_ok-read_line.ensures.steps;
      room = omega (arith, more, c.first_line.ensures.rest, c.loop-rest.invariant.room);
    }

pub returns-clause-says : goal.returns-clause-says
returns-clause-says c =
    reads_all c.args.text.now c.loop-rest.rest.now c.loop-rest.trace c.loop-rest.invariant.reads
    (nil_from_length c.loop-rest.rest.now (grind (arith, nat_tests)))

pub returns-clause-fault : goal.returns-clause-fault
returns-clause-fault c =
    all_faultless c.args.text.now c.loop-rest.rest.now c.loop-rest.trace c.loop-rest.invariant.reads
    (nil_from_length c.loop-rest.rest.now (grind (arith, nat_tests)))

pub returns-clause-few : goal.returns-clause-few
returns-clause-few c =
    let size = trace_size c.args.text.now c.loop-rest.trace (returns-clause-says c) in omega (arith, size.0, c.requires)

pub returns-clause-bytes : goal.returns-clause-bytes
returns-clause-bytes c = (trace_size c.args.text.now c.loop-rest.trace (returns-clause-says c)).1
