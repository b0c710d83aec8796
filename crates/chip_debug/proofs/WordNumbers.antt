-- Lines by the number of their words.
use Rattle.std.proofs.Common.{◌≡◌, ℕ, List, [], ◌∷◌, None, Err, refl, subst, sym}
use Rattle.line_words.specs.Words.{lone, words}
use Rattle.line_words.proofs.WordLaws.{a_word}
use Rattle.chip_debug.specs.declared.answers.DebugCause.TheVariants.{Word}
use Rattle.chip_debug.specs.Commands.{command_of}

behind_three : (name word first : List ℕ) (ws : List (List ℕ)) → lone (first ∷ ws) ≡ None → command_of (name ∷ word ∷ first ∷ ws) ≡ Err Word
behind_three name word first [] none = absurd cc
behind_three name word first (more ∷ ws) none = refl

-- more words than three
pub too_many_words : (name word rest : List ℕ) → lone (words rest) ≡ None → command_of (name ∷ word ∷ words rest) ≡ Err Word
too_many_words name word rest none =
    let some = a_word rest in
    let P : List (List ℕ) → Type 0 = λ ws. lone ws ≡ None → command_of (name ∷ word ∷ ws) ≡ Err Word in
    subst P (sym some.2) (behind_three name word some.0 some.1) none
