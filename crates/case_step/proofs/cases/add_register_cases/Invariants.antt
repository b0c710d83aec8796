-- the cases of the bytes so far are added
use Rattle.std.proofs.Common.{◌≡◌, ◌++◌, take, map}
use Rattle.abs_domain.specs.StateView.{state_of}
use Rattle.case_step.specs.Cases.{with_register}
use Rattle.case_step.specs.EntryViews.{states_of}
use Rattle.case_step.proofs.cases.add_register_cases.Given as goal

abbrev pub invariant-loop-byte : goal.invariant-loop-byte
invariant-loop-byte l = states_of l.out.items
    ≡ states_of l.initial.out.items ++ map (λ byte. with_register l.number byte (state_of l.case)) (take l.byte-index l.byte-items)
