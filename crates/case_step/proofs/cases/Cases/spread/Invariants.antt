-- what is left of the parts makes of the cases so far what all make of the first
use Rattle.std.proofs.Common.{◌≡◌, [], ◌∷◌, drop}
use Rattle.abs_domain.specs.StateView.{state_of}
use Rattle.case_step.specs.Cases.{spread_cases}
use Rattle.case_step.specs.EntryViews.{entry_view}
use Rattle.case_step.proofs.cases.Cases.spread.Given as goal

abbrev pub invariant-loop-part : goal.invariant-loop-part
invariant-loop-part l =
    spread_cases l.spread (entry_view l.entry) (drop l.part-index l.parts) l.self
    ≡ spread_cases l.spread (entry_view l.entry) l.parts (state_of l.fn.plain ∷ [])
