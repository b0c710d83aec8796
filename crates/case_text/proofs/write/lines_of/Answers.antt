-- Lines that may not stand are none with those of the other entries.
use Rattle.std.proofs.Common.{◌+◌, drop, length, map, sym, ap, ◌∙◌}
use Rattle.case_step.specs.EntryViews.{entry_view}
use Rattle.case_text.specs.WrittenCases.{lines_of, is_writable}
use Rattle.case_text.proofs.LineSets.{same_length, too_many, goes_on}
use Rattle.case_text.proofs.write.lines_of.Goals as goal

pub returns-then-not-may_stand-clause-none : goal.returns-then-not-may_stand-clause-none
returns-then-not-may_stand-clause-none c =
    let entries = c.args.entries.now in
    let i = c.loop-entry.entry-index in
    let keys = c.add.new.self.lines.keys in
    let rest = goes_on entry_view entries i c.entry-item.result (map (λ line. line.items) c.loop-entry.lines.lines.keys)
    (map (λ line. line.items) keys) (lines_of (map entry_view entries)) c.in_ok-line_of.field-0.items c.loop-entry-test.true c.entry-item.is
    c.in_ok-line_of.ensures c.in_ok-add.ensures c.loop-entry.invariant.rest in
    ap is_writable (sym rest)
    ∙ too_many (map (λ line. line.items) keys) (map entry_view (drop (i + 1) entries)) c.add.new.self.size (length keys) c.may_stand.result
    c.may_stand.ensures c.if-not-may_stand.true c.add.new.self.sized (sym (same_length (λ line. line.items) keys))
