-- the cases of the addresses so far are added
use Rattle.std.proofs.Common.{◌≡◌, ◌++◌, take, map}
use Rattle.abs_domain.specs.StateView.{state_of}
use Rattle.case_step.specs.Cases.{with_data_counter}
use Rattle.case_step.specs.EntryViews.{states_of}
use Rattle.case_step.proofs.cases.add_data_cases.Given as goal

abbrev pub invariant-loop-at : goal.invariant-loop-at
invariant-loop-at l = states_of l.out.items
    ≡ states_of l.initial.out.items ++ map (λ at. with_data_counter at (state_of l.case)) (take l.at-index l.at-items)
