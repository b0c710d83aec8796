-- The command of a run gives its two files, and whether the flag stands among the words.
use Rattle.std.proofs.Common.{◌≡◌, ◌∙◌, true, List, [], ◌∷◌, Option, Some, None, IsUtf8, codes, drop, option_map, refl}
use Rattle.std.proofs.Common.{ap}
use Rattle.std.specs.Prelude.{option_and_then}
use Rattle.std.specs.List.{All}
use Rattle.std.proofs.lemmas.List.Elements.{All-drop}
use Rattle.clap.specs.Walk.{Row, Text, first_of, one_of}
use Rattle.clap.specs.Values.{bool_text}
use Rattle.clap.specs.Simple.{App, built, is_simple, matches_of, with_rule}
use Rattle.clap.specs.Faults.{defaults_fault, fault_of, is_simple_and_free}
use Rattle.command_line.specs.CommandLine.{Flag, Plain, Run, Word, run_in, run_of, trace_flag, words_of}
use Rattle.command_line.specs.Parsers.{bare_command, flag, wanted_word}
use Rattle.command_line.proofs.WordSorts.{HasNoOtherFlag, trace, trace_is}
use Rattle.command_line.proofs.Reading.{at_first, rows_unless, told, told-apart}

abbrev pub play_app : Text → App
play_app name =
    with_rule (with_rule (with_rule (bare_command name) (flag trace)) (wanted_word (codes "cart")))
    (wanted_word (codes "script"))

-- the flag's value and the files that a parse found
abbrev pub RunRow : Type 0
RunRow = Option Text × Option Text × Option Text

abbrev pub run_row : List Row → RunRow
run_row rows = (one_of trace rows, first_of (codes "cart") rows, first_of (codes "script") rows)

-- and those of a run
abbrev pub run_given : Run → RunRow
run_given run = (Some (bool_text run.traced), Some run.cart, Some run.script)

module _ (name : Text) where
  abbrev app : App
  app = built (play_app name)

  only : HasNoOtherFlag trace app.top.rules
  only = record { long = λ name e. rw e refl; short = λ c. refl; valueless = refl; single = refl }

  play_told : (words : List Word) → option_map run_row (told app trace at_first words) ≡ option_map run_given (run_in words)
  unfolding defaults_fault
  play_told [] = refl
  play_told (Flag ∷ []) = refl
  play_told (Flag ∷ (Flag ∷ words)) = refl
  play_told (Flag ∷ (Plain x ∷ [])) = refl
  play_told (Flag ∷ (Plain x ∷ (Flag ∷ words))) = refl
  play_told (Flag ∷ (Plain x ∷ (Plain y ∷ []))) = refl
  play_told (Flag ∷ (Plain x ∷ (Plain y ∷ (Flag ∷ words)))) = refl
  play_told (Flag ∷ (Plain x ∷ (Plain y ∷ (Plain z ∷ words)))) = refl
  play_told (Plain x ∷ []) = refl
  play_told (Plain x ∷ (Flag ∷ [])) = refl
  play_told (Plain x ∷ (Flag ∷ (Flag ∷ words))) = refl
  play_told (Plain x ∷ (Flag ∷ (Plain y ∷ []))) = refl
  play_told (Plain x ∷ (Flag ∷ (Plain y ∷ (Flag ∷ words)))) = refl
  play_told (Plain x ∷ (Flag ∷ (Plain y ∷ (Plain z ∷ words)))) = refl
  play_told (Plain x ∷ (Plain y ∷ [])) = refl
  play_told (Plain x ∷ (Plain y ∷ (Flag ∷ []))) = refl
  play_told (Plain x ∷ (Plain y ∷ (Flag ∷ (Flag ∷ words)))) = refl
  play_told (Plain x ∷ (Plain y ∷ (Flag ∷ (Plain z ∷ words)))) = refl
  play_told (Plain x ∷ (Plain y ∷ (Plain z ∷ words))) = refl

  -- what a parse of the words comes to
  pub play_read : (words : List Text) → All IsUtf8 words
      → option_map run_row (rows_unless (fault_of (play_app name) words) (matches_of (play_app name) words))
      ≡ option_map run_given (run_of (drop 1 words))
  play_read words utf8 =
      ap (option_map run_row) (told-apart app trace trace_is only at_first (drop 1 words) (All-drop IsUtf8 1 words utf8))
      ∙ go (words_of trace_flag (drop 1 words))
    where
      go : (o : Option (List Word)) →
          option_map run_row (option_and_then (told app trace at_first) o) ≡ option_map run_given (option_and_then run_in o)
      go None = refl
      go (Some words) = play_told words

  pub play_simple : is_simple (play_app name) ≡ true
  play_simple = refl

  pub play_free : is_simple_and_free (play_app name) ≡ true
  play_free = refl
