-- Each line is read behind those before it, and the first one that isn't ends all.
use Rattle.std.proofs.Common.{◌≡◌, ◌+◌, [], ◌∷◌, ◌++◌, length, ap, arith, length-append}
use Rattle.std.proofs.lemmas.Result.{err_from_is_err_and}
use Rattle.case_step.specs.Ascending.{AreBefore}
use Rattle.case_step.specs.EntryViews.{entry_view}
use Rattle.case_text.proofs.LinesInOrder.{all_read, entry_fails, fails, goes_on, is_ahead, last_again, last_of, left, no_line, one_entry}
use Rattle.case_text.proofs.LinesInOrder.{over}
use Rattle.case_text.proofs.read.entries_of.Goals as goal

pub returns-in_err-line-clause-entries : goal.returns-in_err-line-clause-entries
returns-in_err-line-clause-entries c =
    let stopped = err_from_is_err_and c.from_residual.result c.from_residual.ensures.1 in
    let number = c.loop-number.number in
    let before = last_of c.loop-number.before in
    let rest = c.loop-number.rest.now in
    let same = c.loop-number.invariant.same in
    let more = left c.args.count c.args.text.now number before rest c.loop-number.list same in
    rw (stopped.1, stopped.2)
    (fails c.args.count c.args.text.now number before rest c.loop-number.list same (omega arith) c.in_err-line.field-0.0
    (no_line more number before rest c.in_err-line.field-0.0 c.in_err-line.ensures))

pub returns-in_err-entry-clause-entries : goal.returns-in_err-entry-clause-entries
returns-in_err-entry-clause-entries c =
    let stopped = err_from_is_err_and c.from_residual-in_err-entry.result c.from_residual-in_err-entry.ensures.1 in
    rw (stopped.1, stopped.2)
    (entry_fails c.args.count c.args.text.now c.loop-number.number (last_of c.loop-number.before) c.loop-number.rest.now c.loop-number.list
    c.loop-number.invariant.same (omega arith) c.in_ok-line.line.now c.in_ok-line.behind.now c.in_ok-line.ensures c.in_err-entry.field-0.0
    c.in_err-entry.ensures)

pub push-requires : goal.push-requires
push-requires c =
    let e = c.in_ok-entry.entry in
    let line = c.in_ok-line.line.now in
    c.loop-number.invariant.last e.at line
    (is_ahead c.loop-number.number (last_of c.loop-number.before) line (entry_view e) c.in_ok-entry.ensures)

pub loop-number-preserved : goal.loop-number-preserved
loop-number-preserved c =
    let number = c.loop-number.number in
    let before = last_of c.loop-number.before in
    let line = c.in_ok-line.line.now in
    let behind = c.in_ok-line.behind.now in
    let rest = c.loop-number.rest.now in
    let list = c.loop-number.list in
    let same = c.loop-number.invariant.same in
    let e = entry_view c.in_ok-entry.entry in
    let more = left c.args.count c.args.text.now number before rest list same in
    let put : c.push.new.self ≡ list ++ e ∷ [] = c.in_ok-push.ensures.added in
    let ahead : AreBefore e.at list =
    c.loop-number.invariant.last e.at line (is_ahead number before line e c.in_ok-entry.ensures) in
    record {
      few = omega (arith, ap length put, length-append list (e ∷ []), c.loop-number.invariant.few);
      last = rw put (last_again list e line ahead);
      same = rw put (goes_on c.args.count c.args.text.now number before rest list same (omega arith) e line behind
          (one_entry more number before rest line behind e c.in_ok-line.ensures c.in_ok-entry.ensures));
    }

pub returns-in_err-ended-clause-entries : goal.returns-in_err-ended-clause-entries
returns-in_err-ended-clause-entries c =
    let stopped = err_from_is_err_and c.from_residual-in_err-ended.result c.from_residual-in_err-ended.ensures.1 in
    let end : c.loop-number.number ≡ c.args.count + 2 = omega arith in
    rw (stopped.1, stopped.2)
    (over c.args.count c.args.text.now c.loop-number.number (last_of c.loop-number.before) c.loop-number.rest.now c.loop-number.list
    c.loop-number.invariant.same c.in_err-ended.field-0.0 (omega arith) (rw end c.in_err-ended.ensures))

pub returns-clause-entries : goal.returns-clause-entries
returns-clause-entries c =
    let end : c.loop-number.number ≡ c.args.count + 2 = omega arith in
    all_read c.args.count c.args.text.now c.loop-number.number (last_of c.loop-number.before) c.loop-number.rest.now c.loop-number.list
    c.loop-number.invariant.same (omega arith) (rw end c.in_ok-ended.ensures)
