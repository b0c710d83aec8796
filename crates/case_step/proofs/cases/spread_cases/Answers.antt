-- the cases of all are made, or those of some are too many already
use Rattle.std.proofs.Common.{◌∙◌, ap, arith}
use Rattle.std.specs.Prelude.{flat_map}
use Rattle.std.proofs.lemmas.List.{length-map, take_all}
use Rattle.abs_domain.specs.StateView.{state_of}
use Rattle.case_step.specs.EntryViews.{entry_view, states_of}
use Rattle.case_step.proofs.CaseLoops.{of_case, all_made, too_many}
use Rattle.case_step.proofs.cases.spread_cases.Goals as goal

pub returns-then-len-gt-MOST_CASES : goal.returns-then-len-gt-MOST_CASES
returns-then-len-gt-MOST_CASES c =
    let more = c.add_part_cases.new.out in
    too_many c.args.spread (entry_view c.args.entry.now) c.args.part c.args.cases.now c.loop-case.case-index c.case-item.result
    (states_of c.loop-case.more.items) (states_of more.items) (omega arith) c.case-item.is c.loop-case.invariant.made
    c.in_ok-add_part_cases.ensures (omega (arith, c.len.ensures, more.ok.0, length-map more.items state_of))

pub returns : goal.returns
returns c =
    let e = entry_view c.args.entry.now in
    let more = c.loop-case.more in
    let all = take_all c.loop-case.case-index c.args.cases.now (omega arith) in
    all_made c.args.spread e c.args.part c.args.cases.now (states_of more.items)
    (c.loop-case.invariant.made ∙ ap (flat_map (of_case c.args.spread e c.args.part)) all)
    (omega (arith, c.loop-case.invariant.few, length-map more.items state_of))
