-- Each line is read behind those before it, and the first one that isn't ends all.
use Rattle.std.proofs.Common.{◌≡◌, ◌+◌, [], ◌∷◌, ◌++◌, length, ap, ◌∙◌, arith, length-append}
use Rattle.std.proofs.lemmas.Result.{err_from_is_err_and}
use Rattle.abs_domain.specs.StateView.{state_of}
use Rattle.abs_domain.specs.declared.points.Point.{Point}
use Rattle.abs_domain.specs.declared.state.Abs.{Abs}
use Rattle.certificate.specs.CertificateText.{entry_in}
use Rattle.certificate.proofs.EntriesRead.{no_line, no_entry, one_entry, is_read, at_line_of, put_last, last_again, fails, goes_on}
use Rattle.certificate.proofs.EntriesRead.{all_read, over, left}
use Rattle.certificate.proofs.read.entries_of.Goals as goal

pub returns-in_err-line-clause-entries : goal.returns-in_err-line-clause-entries
returns-in_err-line-clause-entries c =
    let stopped = err_from_is_err_and c.from_residual.result c.from_residual.ensures.1 in
    let tracked = c.args.tracked.now in
    let number = c.loop-number.number in
    let before = c.loop-number.before in
    let rest = c.loop-number.rest.now in
    let notes = c.loop-number.notes.entries in
    let same = c.loop-number.invariant.same in
    let more = left tracked c.args.count c.args.text.now number before rest notes same in
    rw (stopped.1, stopped.2)
    (fails tracked c.args.count c.args.text.now number before rest notes same (omega arith) c.in_err-line.field-0.0
    (no_line tracked more number before rest c.in_err-line.field-0.0 c.in_err-line.ensures))

pub returns-in_err-point-clause-entries : goal.returns-in_err-point-clause-entries
returns-in_err-point-clause-entries c =
    let stopped = err_from_is_err_and c.from_residual-in_err-point.result c.from_residual-in_err-point.ensures.1 in
    let tracked = c.args.tracked.now in
    let number = c.loop-number.number in
    let before = c.loop-number.before in
    let rest = c.loop-number.rest.now in
    let notes = c.loop-number.notes.entries in
    let same = c.loop-number.invariant.same in
    let more = left tracked c.args.count c.args.text.now number before rest notes same in
    rw (stopped.1, stopped.2)
    (fails tracked c.args.count c.args.text.now number before rest notes same (omega arith) c.in_err-point.field-0.0
    (no_entry tracked more number before rest c.in_ok-line.line.now c.in_ok-line.behind.now c.in_err-point.field-0.0
    c.in_ok-line.ensures c.in_err-point.ensures))

pub loop-number-preserved : goal.loop-number-preserved
loop-number-preserved c =
    let tracked = c.args.tracked.now in
    let number = c.loop-number.number in
    let before = c.loop-number.before in
    let line = c.in_ok-line.line.now in
    let rest = c.loop-number.rest.now in
    let notes = c.loop-number.notes.entries in
    let same = c.loop-number.invariant.same in
    let p : Point = c.in_ok-point.point in
    let s : Abs = c.in_ok-point.state in
    let more = left tracked c.args.count c.args.text.now number before rest notes same in
    let known = at_line_of number (entry_in tracked before line) (p, state_of s) c.in_ok-point.ensures in
    let below = c.loop-number.invariant.last p (is_read tracked before line (p, state_of s) known).ahead in
    let put : c.insert.new.self.entries ≡ notes ++ (p, s) ∷ [] = c.in_ok-insert.ensures.entries ∙ put_last notes p s below in
    record {
      few = omega (arith, ap length put, length-append notes ((p, s) ∷ []), c.loop-number.invariant.few);
      last = rw put (last_again notes p s below);
      same = rw put (goes_on tracked c.args.count c.args.text.now number before rest notes same (omega arith) p s c.in_ok-line.behind.now
          (one_entry tracked more number before rest line c.in_ok-line.behind.now (p, state_of s) c.in_ok-line.ensures c.in_ok-point.ensures));
    }

pub returns-in_err-ended-clause-entries : goal.returns-in_err-ended-clause-entries
returns-in_err-ended-clause-entries c =
    let stopped = err_from_is_err_and c.from_residual-in_err-ended.result c.from_residual-in_err-ended.ensures.1 in
    let end : c.loop-number.number ≡ c.args.count + 2 = omega arith in
    rw (stopped.1, stopped.2)
    (over c.args.tracked.now c.args.count c.args.text.now c.loop-number.number c.loop-number.before c.loop-number.rest.now
    c.loop-number.notes.entries c.loop-number.invariant.same c.in_err-ended.field-0.0 (omega arith) (rw end c.in_err-ended.ensures))

pub returns-clause-entries : goal.returns-clause-entries
returns-clause-entries c =
    let end : c.loop-number.number ≡ c.args.count + 2 = omega arith in
    all_read c.args.tracked.now c.args.count c.args.text.now c.loop-number.number c.loop-number.before c.loop-number.rest.now
    c.loop-number.notes.entries c.loop-number.invariant.same (omega arith) (rw end c.in_ok-ended.ensures)
