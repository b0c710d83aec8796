use Rattle.std.proofs.Common.{◌≡◌, drop}
use Rattle.abs_domain.specs.StateView.{state_of}
use Rattle.case_step.specs.CaseLists.{first_open as spelled_open}
use Rattle.case_step.specs.EntryViews.{entry_view}
use Rattle.case_step.proofs.judging.first_open.Given as goal

-- the points so far have no open one
abbrev pub invariant-loop-place : goal.invariant-loop-place
invariant-loop-place l =
    spelled_open l.list l.op (entry_view l.entry) (state_of l.case) l.ways
    ≡ spelled_open l.list l.op (entry_view l.entry) (state_of l.case) (drop l.place l.ways)
