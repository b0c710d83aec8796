-- The words so far stand before those of the rest.
use Rattle.std.proofs.Common.{◌≡◌, length}
use Rattle.case_text.specs.EntryWords.{in_pairs}
use Rattle.case_text.proofs.Fronts.{behind}
use Rattle.case_text.proofs.numbers.words_of.Given as goal

abbrev pub invariant-loop-rest : goal.invariant-loop-rest
invariant-loop-rest l = behind l.words.items (in_pairs l.rest) ≡ in_pairs l.bytes

-- each turn leaves less
abbrev pub decreases-loop-rest : goal.decreases-loop-rest
decreases-loop-rest l = length l.rest
