use Rattle.std.proofs.Common.{◌≡◌, drop}
use Rattle.abs_step.specs.MapView.{view_of}
use Rattle.case_step.specs.CaseLists.{cases_failure}
use Rattle.case_step.specs.EntryViews.{entry_view, states_of}
use Rattle.case_step.proofs.judging.first_failure.Given as goal

-- the cases so far have no failure
abbrev pub invariant-loop-case : goal.invariant-loop-case
invariant-loop-case l =
    cases_failure (view_of l.map) l.list l.place (entry_view l.entry) (states_of l.cases)
    ≡ cases_failure (view_of l.map) l.list l.place (entry_view l.entry) (states_of (drop l.case-index l.cases))
