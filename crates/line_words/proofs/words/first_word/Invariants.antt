-- No blank stands before this place.
use Rattle.line_words.proofs.WordLaws.{NoBlank}
use Rattle.line_words.proofs.words.first_word.Given as goal

-- no blank has been passed
abbrev pub invariant-loop-at : goal.invariant-loop-at
invariant-loop-at l = NoBlank l.at l.text
