-- The numbers so far stand before those of the rest, and are small.
use Rattle.std.proofs.Common.{◌≡◌, ◌<◌, length}
use Rattle.std.specs.List.{All}
use Rattle.case_text.specs.EntryWords.{octals_of}
use Rattle.case_text.proofs.Fronts.{behind}
use Rattle.case_text.proofs.numbers.octals_of.Given as goal

abbrev pub invariant-loop-rest : goal.invariant-loop-rest
invariant-loop-rest l = record {
  value : behind l.numbers.items (octals_of l.rest) ≡ octals_of l.word;
  small : All (λ number. number < 64) l.numbers.items;
}

-- each turn leaves less
abbrev pub decreases-loop-rest : goal.decreases-loop-rest
decreases-loop-rest l = length l.rest
