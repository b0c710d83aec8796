-- the cases of the numbers so far are added
use Rattle.std.proofs.Common.{◌≡◌, ◌++◌, take, map}
use Rattle.abs_domain.specs.StateView.{state_of}
use Rattle.case_step.specs.Cases.{with_isar}
use Rattle.case_step.specs.EntryViews.{states_of}
use Rattle.case_step.proofs.cases.add_isar_cases.Given as goal

abbrev pub invariant-loop-number : goal.invariant-loop-number
invariant-loop-number l = states_of l.out.items
    ≡ states_of l.initial.out.items ++ map (λ number. with_isar number (state_of l.case)) (take l.number-index l.number-items)
