-- what the spreads that are left make is what all make
use Rattle.std.proofs.Common.{◌≡◌}
use Rattle.abs_domain.specs.StateView.{state_of}
use Rattle.case_step.specs.EntryViews.{entry_view}
use Rattle.case_step.proofs.CaseLoops.{made_from}
use Rattle.case_step.proofs.cases.Cases.fill.Given as goal

abbrev pub invariant-loop-spread : goal.invariant-loop-spread
invariant-loop-spread l =
    made_from (entry_view l.entry) l.reads.items (state_of l.plain) l.spread-index ≡ made_from (entry_view l.entry) l.reads.items (state_of l.plain) 0
