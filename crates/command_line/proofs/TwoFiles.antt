-- The command of two files gives the two plain words.
use Rattle.std.proofs.Common.{◌≡◌, ◌∙◌, true, List, [], ◌∷◌, Option, Some, None, IsUtf8, codes, drop, option_map, refl}
use Rattle.std.proofs.Common.{ap}
use Rattle.std.specs.Prelude.{option_and_then}
use Rattle.std.specs.List.{All}
use Rattle.std.proofs.lemmas.List.Elements.{All-drop}
use Rattle.clap.specs.Walk.{Row, Text, first_of}
use Rattle.clap.specs.Simple.{App, built, is_simple, matches_of, with_rule}
use Rattle.clap.specs.Faults.{defaults_fault, fault_of, is_simple_and_free}
use Rattle.command_line.specs.CommandLine.{Flag, Plain, Word, two_in, two_of, trace_flag, words_of}
use Rattle.command_line.specs.Parsers.{bare_command, wanted_word}
use Rattle.command_line.proofs.WordSorts.{HasNoOtherFlag, trace, trace_is}
use Rattle.command_line.proofs.Reading.{at_first, rows_unless, told, told-apart}

abbrev pub files_app : Text → App
files_app name = with_rule (with_rule (bare_command name) (wanted_word (codes "cart"))) (wanted_word (codes "script"))

abbrev pub both_files : List Row → Option Text × Option Text
both_files rows = (first_of (codes "cart") rows, first_of (codes "script") rows)

abbrev pub both_given : Text × Text → Option Text × Option Text
both_given files = (Some files.0, Some files.1)

module _ (name : Text) where
  abbrev app : App
  app = built (files_app name)

  only : HasNoOtherFlag trace app.top.rules
  only = record { long = λ name e. refl; short = λ c. refl; valueless = refl; single = refl }

  two_told : (words : List Word) →
      option_map both_files (told app trace at_first words) ≡ option_map both_given (two_in words)
  unfolding defaults_fault
  two_told [] = refl
  two_told (Flag ∷ words) = refl
  two_told (Plain x ∷ []) = refl
  two_told (Plain x ∷ (Flag ∷ words)) = refl
  two_told (Plain x ∷ (Plain y ∷ [])) = refl
  two_told (Plain x ∷ (Plain y ∷ (Flag ∷ words))) = refl
  two_told (Plain x ∷ (Plain y ∷ (Plain z ∷ words))) = refl

  -- what a parse of the words comes to
  pub two_files_read : (words : List Text) → All IsUtf8 words
      → option_map both_files (rows_unless (fault_of (files_app name) words) (matches_of (files_app name) words))
      ≡ option_map both_given (two_of (drop 1 words))
  two_files_read words utf8 =
      ap (option_map both_files) (told-apart app trace trace_is only at_first (drop 1 words) (All-drop IsUtf8 1 words utf8))
      ∙ go (words_of trace_flag (drop 1 words))
    where
      go : (o : Option (List Word)) →
          option_map both_files (option_and_then (told app trace at_first) o) ≡ option_map both_given
          (option_and_then two_in o)
      go None = refl
      go (Some words) = two_told words

  pub two_files_simple : is_simple (files_app name) ≡ true
  two_files_simple = refl

  pub two_files_free : is_simple_and_free (files_app name) ≡ true
  two_files_free = refl
