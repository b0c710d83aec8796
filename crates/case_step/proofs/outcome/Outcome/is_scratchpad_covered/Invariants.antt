-- The registers so far are covered.
use Rattle.std.proofs.Common.{◌≡◌, ◌<◌, ℕ, true}
use Rattle.abs_domain.specs.StateView.{state_of}
use Rattle.value_sets.specs.ValueSets.{is_within}
use Rattle.case_step.specs.Entries.{register_values}
use Rattle.case_step.specs.EntryViews.{entry_view}
use Rattle.case_step.specs.Results.{register_after}
use Rattle.case_step.proofs.outcome.Outcome.is_scratchpad_covered.Given as goal

abbrev pub invariant-loop-number : goal.invariant-loop-number
invariant-loop-number l = (k : ℕ) → k < l.number → is_within
    (register_after l.self.op (entry_view l.self.entry.now) (state_of l.self.before.now) (state_of l.self.after.now) k)
    (register_values k (entry_view l.upper)) ≡ true
