-- The command of one word gives the one plain word.
use Rattle.std.proofs.Common.{◌≡◌, ◌∙◌, true, List, [], ◌∷◌, Option, Some, None, IsUtf8, codes, drop, option_map, refl}
use Rattle.std.proofs.Common.{ap}
use Rattle.std.specs.Prelude.{option_and_then}
use Rattle.std.specs.List.{All}
use Rattle.std.proofs.lemmas.List.Elements.{All-drop}
use Rattle.clap.specs.Walk.{Row, Text, first_of}
use Rattle.clap.specs.Simple.{App, built, is_simple, matches_of, with_rule}
use Rattle.clap.specs.Faults.{defaults_fault, fault_of, is_simple_and_free}
use Rattle.command_line.specs.CommandLine.{Flag, Plain, Word, one_in, one_of, trace_flag, words_of}
use Rattle.command_line.specs.Parsers.{bare_command, wanted_word}
use Rattle.command_line.proofs.WordSorts.{HasNoOtherFlag, trace, trace_is}
use Rattle.command_line.proofs.Reading.{at_first, rows_unless, told, told-apart}

abbrev pub word_app : Text → App
word_app name = with_rule (bare_command name) (wanted_word (codes "word"))

abbrev pub word_row : List Row → Option Text
word_row rows = first_of (codes "word") rows

module _ (name : Text) where
  abbrev app : App
  app = built (word_app name)

  only : HasNoOtherFlag trace app.top.rules
  only = record { long = λ name e. refl; short = λ c. refl; valueless = refl; single = refl }

  one_told : (words : List Word) → option_map word_row (told app trace at_first words) ≡ option_map Some (one_in words)
  unfolding defaults_fault
  one_told [] = refl
  one_told (Flag ∷ words) = refl
  one_told (Plain x ∷ []) = refl
  one_told (Plain x ∷ (Flag ∷ words)) = refl
  one_told (Plain x ∷ (Plain y ∷ words)) = refl

  -- what a parse of the words comes to
  pub one_word_read : (words : List Text) → All IsUtf8 words
      → option_map word_row (rows_unless (fault_of (word_app name) words) (matches_of (word_app name) words))
      ≡ option_map Some (one_of (drop 1 words))
  one_word_read words utf8 =
      ap (option_map word_row) (told-apart app trace trace_is only at_first (drop 1 words) (All-drop IsUtf8 1 words utf8))
      ∙ go (words_of trace_flag (drop 1 words))
    where
      go : (o : Option (List Word)) →
          option_map word_row (option_and_then (told app trace at_first) o) ≡ option_map Some (option_and_then one_in o)
      go None = refl
      go (Some words) = one_told words

  pub one_word_simple : is_simple (word_app name) ≡ true
  one_word_simple = refl

  pub one_word_free : is_simple_and_free (word_app name) ≡ true
  one_word_free = refl
