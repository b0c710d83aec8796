-- The list so far isn't too long, and its union with the words that are left is the whole union.
use Rattle.std.proofs.Common.{◌≡◌, ◌≤◌, drop, length}
use Rattle.value_sets.specs.ValueSets.{union}
use Rattle.value_sets.specs.declared.words.TheConstants.{MOST_WORDS}
use Rattle.value_sets.proofs.words.union_of.Given as goal

abbrev pub invariant-loop-word : goal.invariant-loop-word
invariant-loop-word l = record {
  few : length l.words.items ≤ MOST_WORDS;
  union : union l.words.items (drop l.word-index l.more) ≡ union l.initial.words.items l.more;
}
