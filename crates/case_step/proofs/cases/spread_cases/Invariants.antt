-- the cases of those so far are made, and they aren't too many
use Rattle.std.proofs.Common.{◌≡◌, ◌≤◌, length, take}
use Rattle.std.specs.Prelude.{flat_map}
use Rattle.abs_domain.specs.StateView.{state_of}
use Rattle.case_step.specs.Cases.{part_cases}
use Rattle.case_step.specs.EntryViews.{entry_view, states_of}
use Rattle.case_step.proofs.cases.spread_cases.Given as goal

abbrev pub invariant-loop-case : goal.invariant-loop-case
invariant-loop-case l = record {
  made : states_of l.more.items ≡ flat_map (λ case. part_cases l.spread (entry_view l.entry) l.part (state_of case)) (take l.case-index l.cases);
  few : length l.more.items ≤ 4096;
}
