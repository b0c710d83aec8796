-- A line stops the call, or the text ends.
use Rattle.std.proofs.lemmas.Result.{err_from_is_err_and}
use Rattle.text_lines.specs.Lines.{lines}
use Rattle.chip_debug.proofs.LineSteps.{end_tells, stop_tells}
use Rattle.chip_debug.proofs.read.read_commands.Goals as goal

pub returns-in_err-read_lines-clause-lines : goal.returns-in_err-read_lines-clause-lines
returns-in_err-read_lines-clause-lines c =
    let stopped = err_from_is_err_and c.from_residual.result c.from_residual.ensures.1 in
    rw (stopped.1, stopped.2)
    (stop_tells (lines c.args.text.now) c.in_err-read_lines.field-0.0 (λ count. c.read_lines.new.draft)
    (rw c.new-draft.ensures at c.in_err-read_lines.ensures.draft)
    (rw c.new-draft.ensures at c.in_err-read_lines.ensures.memory))

pub returns-clause-lines : goal.returns-clause-lines
returns-clause-lines c =
    rw c.finish.ensures
    (end_tells (lines c.args.text.now) c.read_lines.new.draft
    (rw c.new-draft.ensures at c.in_ok-read_lines.ensures.draft))
