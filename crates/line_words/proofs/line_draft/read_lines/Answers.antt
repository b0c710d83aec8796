-- The lines so far lead to the draft, and then a line stops the call, or the text ends.
use Rattle.std.proofs.Common.{arith}
use Rattle.std.proofs.lemmas.Bool.Decides.{nat_tests}
use Rattle.std.proofs.lemmas.List.{nil_from_length}
use Rattle.line_words.proofs.LineSteps.{reads_all, reads_fault, reads_more, reads_short}
use Rattle.line_words.proofs.line_draft.read_lines.Goals as goal

pub returns-in-Err-Fault-clause-draft : goal.returns-in-Err-Fault-clause-draft
returns-in-Err-Fault-clause-draft g c =
    rw c.in-Err-Fault.field-0-is
    (reads_fault g.D.LineDraft.after_line c.args.text.now c.loop-rest.rest.now c.loop-rest.count c.args.draft.now
    c.loop-rest.draft c.loop-rest.invariant.reads c.first_line.result.1.now c.first_line.result.0.now
    c.in-Err-Fault.cause c.first_line.ensures.split
    (rw c.in-Err-Fault.field-0-is at c.in-Err-Fault.ensures.steps))

pub returns-in-Err-Memory-clause-memory : goal.returns-in-Err-Memory-clause-memory
returns-in-Err-Memory-clause-memory g c =
    reads_short g.D.LineDraft.after_line c.args.text.now c.loop-rest.rest.now c.loop-rest.count c.args.draft.now
    c.loop-rest.draft c.loop-rest.invariant.reads g.D.LineDraft.takes_memory c.first_line.result.1.now
    c.first_line.result.0.now c.first_line.ensures.split (rw c.in-Err-Memory.field-0-is at c.in-Err-Memory.ensures.memory)

pub loop-rest-preserved : goal.loop-rest-preserved
loop-rest-preserved g c = record {
  reads = reads_more g.D.LineDraft.after_line c.args.text.now c.loop-rest.rest.now c.loop-rest.count c.args.draft.now
      c.loop-rest.draft c.loop-rest.invariant.reads c.first_line.result.1.now c.first_line.result.0.now
      c.read_line.new.self c.first_line.ensures.split c.in-Ok.ensures.steps;
  room = omega (arith, c.first_line.ensures.rest, c.loop-rest.invariant.room);
}

pub returns-clause-draft : goal.returns-clause-draft
returns-clause-draft g c =
    reads_all g.D.LineDraft.after_line c.args.text.now c.loop-rest.rest.now c.loop-rest.count c.args.draft.now
    c.loop-rest.draft c.loop-rest.invariant.reads (nil_from_length c.loop-rest.rest.now (grind (arith, nat_tests)))
