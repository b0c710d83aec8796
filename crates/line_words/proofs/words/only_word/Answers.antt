-- A word without blanks is the only one.
use Rattle.std.proofs.Common.{◌≡◌, ◌∷◌, sym, ◌∙◌, ap}
use Rattle.line_words.specs.Words.{lone, words}
use Rattle.line_words.proofs.WordLaws.{not_lone}
use Rattle.line_words.proofs.words.only_word.Goals as goal

pub returns-in_default-Some : goal.returns-in_default-Some
returns-in_default-Some c =
    let more : words c.args.text.now ≡ c.first_word.result.0.now ∷ words c.in_default-Some.field-0-1.now =
    rw c.in_default-Some.is-1 at c.first_word.ensures in
    sym (ap lone more ∙ not_lone c.first_word.result.0.now c.in_default-Some.field-0-1.now)
