-- one part after another makes its cases, until one makes too many
use Rattle.std.proofs.Common.{◌∙◌, sym, arith}
use Rattle.case_step.specs.EntryViews.{entry_view}
use Rattle.case_step.proofs.CaseLoops.{next_part, no_part, all_parts}
use Rattle.case_step.proofs.cases.Cases.spread.Goals as goal

pub returns-then-not-branch : goal.returns-then-not-branch
returns-then-not-branch c =
    sym (no_part c.args.spread (entry_view c.args.entry.now) c.args.parts.now c.loop-part.part-index c.loop-part.self (omega arith)
    (rw c.if-not-branch.true at c.in_ok-spread_part.ensures))
    ∙ c.loop-part.invariant

pub loop-part-preserved : goal.loop-part-preserved
loop-part-preserved c =
    sym (next_part c.args.spread (entry_view c.args.entry.now) c.args.parts.now c.loop-part.part-index c.loop-part.self c.spread_part.new.self
    (omega arith) (rw c.if-not-branch.false at c.in_ok-spread_part.ensures))
    ∙ c.loop-part.invariant

pub returns : goal.returns
returns c =
    sym (all_parts c.args.spread (entry_view c.args.entry.now) c.args.parts.now c.loop-part.part-index c.loop-part.self (omega arith))
    ∙ c.loop-part.invariant
