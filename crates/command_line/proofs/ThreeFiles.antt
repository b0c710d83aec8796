-- The command of three files gives the three plain words.
use Rattle.std.proofs.Common.{◌≡◌, ◌∙◌, true, List, [], ◌∷◌, Option, Some, None, IsUtf8, codes, drop, option_map, refl}
use Rattle.std.proofs.Common.{ap}
use Rattle.std.specs.Prelude.{option_and_then}
use Rattle.std.specs.List.{All}
use Rattle.std.proofs.lemmas.List.Elements.{All-drop}
use Rattle.clap.specs.Walk.{Row, Text, first_of}
use Rattle.clap.specs.Simple.{App, built, is_simple, matches_of, with_rule}
use Rattle.clap.specs.Faults.{defaults_fault, fault_of, is_simple_and_free}
use Rattle.command_line.specs.CommandLine.{Flag, Plain, Word, three_in, three_of, trace_flag, words_of}
use Rattle.command_line.specs.Parsers.{wanted_word}
use Rattle.command_line.proofs.TwoFiles.{files_app}
use Rattle.command_line.proofs.WordSorts.{HasNoOtherFlag, trace, trace_is}
use Rattle.command_line.proofs.Reading.{at_first, rows_unless, told, told-apart}

abbrev pub three_files_app : Text → App
three_files_app name = with_rule (files_app name) (wanted_word (codes "trace"))

abbrev pub all_files : List Row → Option Text × Option Text × Option Text
all_files rows = (first_of (codes "cart") rows, first_of (codes "script") rows, first_of (codes "trace") rows)

abbrev pub all_given : Text × Text × Text → Option Text × Option Text × Option Text
all_given files = (Some files.0, Some files.1, Some files.2)

module _ (name : Text) where
  abbrev app : App
  app = built (three_files_app name)

  -- the word that is called trace here is no flag
  only : HasNoOtherFlag trace app.top.rules
  only = record { long = λ name e. refl; short = λ c. refl; valueless = refl; single = refl }

  three_told : (words : List Word) →
      option_map all_files (told app trace at_first words) ≡ option_map all_given (three_in words)
  unfolding defaults_fault
  three_told [] = refl
  three_told (Flag ∷ words) = refl
  three_told (Plain x ∷ []) = refl
  three_told (Plain x ∷ (Flag ∷ words)) = refl
  three_told (Plain x ∷ (Plain y ∷ [])) = refl
  three_told (Plain x ∷ (Plain y ∷ (Flag ∷ words))) = refl
  three_told (Plain x ∷ (Plain y ∷ (Plain z ∷ []))) = refl
  three_told (Plain x ∷ (Plain y ∷ (Plain z ∷ (Flag ∷ words)))) = refl
  three_told (Plain x ∷ (Plain y ∷ (Plain z ∷ (Plain u ∷ words)))) = refl

  -- what a parse of the words comes to
  pub three_files_read : (words : List Text) → All IsUtf8 words
      → option_map all_files (rows_unless (fault_of (three_files_app name) words) (matches_of (three_files_app name) words))
      ≡ option_map all_given (three_of (drop 1 words))
  three_files_read words utf8 =
      ap (option_map all_files) (told-apart app trace trace_is only at_first (drop 1 words) (All-drop IsUtf8 1 words utf8))
      ∙ go (words_of trace_flag (drop 1 words))
    where
      go : (o : Option (List Word)) →
          option_map all_files (option_and_then (told app trace at_first) o) ≡ option_map all_given
          (option_and_then three_in o)
      go None = refl
      go (Some words) = three_told words

  pub three_files_simple : is_simple (three_files_app name) ≡ true
  three_files_simple = refl

  pub three_files_free : is_simple_and_free (three_files_app name) ≡ true
  three_files_free = refl
