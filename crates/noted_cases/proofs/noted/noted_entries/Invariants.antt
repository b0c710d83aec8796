-- the entries so far, and then those of the notes that are left
use Rattle.std.proofs.Common.{◌≡◌, ◌++◌, map}
use Rattle.abs_step.specs.StatesAtPoints.{state_in}
use Rattle.case_step.specs.EntryViews.{entry_view}
use Rattle.noted_cases.specs.NotedEntries.{noted_entry}
use Rattle.noted_cases.proofs.noted.noted_entries.Given as goal

abbrev pub invariant-loop-point : goal.invariant-loop-point
invariant-loop-point l =
    map entry_view l.entries.items ++ map (λ note. noted_entry (state_in note)) l.point-iterator ≡ map noted_entry l.notes
