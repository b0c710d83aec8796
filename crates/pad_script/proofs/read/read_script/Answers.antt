-- A line stops the call, or the text ends, with an end of the run or without.
use Rattle.std.proofs.lemmas.Result.{err_from_is_err_and}
use Rattle.text_lines.specs.Lines.{lines}
use Rattle.pad_script.specs.Reading.{seen}
use Rattle.pad_script.proofs.Told.{end_fault, faultless, stop_tells, told_script}
use Rattle.pad_script.proofs.read.read_script.Goals as goal

pub returns-in_err-count-clause-fault : goal.returns-in_err-count-clause-fault
returns-in_err-count-clause-fault c =
    let stopped = err_from_is_err_and c.from_residual.result c.from_residual.ensures.1 in
    rw (stopped.1, stopped.2)
    (stop_tells (lines c.args.text.now) c.in_err-count.field-0.0 (λ count. c.read_lines.new.draft)
    (rw c.new-draft.ensures at c.in_err-count.ensures.draft) (rw c.new-draft.ensures at c.in_err-count.ensures.memory))

pub returns-in_default-clause-fault : goal.returns-in_default-clause-fault
returns-in_default-clause-fault c =
    end_fault (lines c.args.text.now) c.read_lines.new.draft (rw c.new-draft.ensures at c.in_ok-count.ensures.draft)
    c.in_ok-count.count c.in_ok-count.ensures.count c.in_default.ensures.script

pub returns-clause-told : goal.returns-clause-told
returns-clause-told c =
    told_script (lines c.args.text.now) c.read_lines.new.draft (rw c.new-draft.ensures at c.in_ok-count.ensures.draft)
    (seen c.in-Some.script) c.in-Some.ensures.script

pub returns-clause-fault : goal.returns-clause-fault
returns-clause-fault c =
    faultless (lines c.args.text.now) c.read_lines.new.draft (rw c.new-draft.ensures at c.in_ok-count.ensures.draft)
