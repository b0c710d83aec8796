-- The command of one file and a flag gives the file, and whether the flag stands beside it.
use Rattle.std.proofs.Common.{◌≡◌, ◌∙◌, ◌&&◌, not, Bool, true, false, List, [], ◌∷◌, Option, Some, None, IsUtf8}
use Rattle.std.proofs.Common.{bytes_eq, codes, drop, option_map, ap, refl, sym, true≢false}
use Rattle.std.specs.Prelude.{option_and_then}
use Rattle.std.specs.List.{All}
use Rattle.std.proofs.lemmas.List.Elements.{All-drop}
use Rattle.std.proofs.lemmas.Slice.Eq.{bytes_eq-Decides}
use Rattle.clap.specs.Lexer.{has_byte}
use Rattle.clap.specs.Walk.{Row, Text, first_of, is_empty, one_of}
use Rattle.clap.specs.Values.{bool_text}
use Rattle.clap.specs.Simple.{App, built, is_simple, matches_of, with_rule}
use Rattle.clap.specs.Faults.{defaults_fault, fault_of, is_simple_and_free}
use Rattle.clap.proofs.SimpleLemmas.{is_false}
use Rattle.clap.proofs.WalkLemmas.{both}
use Rattle.command_line.specs.CommandLine.{Flag, Flagged, Plain, Word, dashed, flagged_in, flagged_of, words_of}
use Rattle.command_line.specs.Parsers.{bare_command, flag, is_flag_name, wanted_word}
use Rattle.command_line.proofs.WordSorts.{HasNoOtherFlag, IsFlag, flag_of_name}
use Rattle.command_line.proofs.Reading.{at_first, rows_unless, told, told-apart}

-- the command by its word and the flag's name
abbrev pub flagged_app : Text → Text → App
flagged_app first name = with_rule (with_rule (bare_command first) (flag name)) (wanted_word (codes "cart"))

-- the flag's value and the file that a parse found
abbrev pub FlaggedRow : Type 0
FlaggedRow = Option Text × Option Text

abbrev pub flagged_row : Text → List Row → FlaggedRow
flagged_row name rows = (one_of name rows, first_of (codes "cart") rows)

-- and those that are asked for
abbrev pub flagged_given : Flagged → FlaggedRow
flagged_given asked = (Some (bool_text asked.flagged), Some asked.file)

-- what the name of the flag is known by
pub record IsKnown (name : Text) : Type 0 where
  pub is_flag : IsFlag name
  pub same : bytes_eq name name ≡ true
  pub apart : bytes_eq name (codes "cart") ≡ false
  pub apart_too : bytes_eq (codes "cart") name ≡ false

pub known : (name : Text) → is_flag_name name ≡ true → IsKnown name
known name named = record {
  is_flag = flag_of_name name (is_false _ (both _ _ named).0) (is_false _ (both _ _ others).0);
  same = (bytes_eq-Decides name name).1 refl;
  apart = apart;
  apart_too = turned (bytes_eq (codes "cart") name) refl;
}
  where
    others : not (has_byte 61 name) && not (bytes_eq name (codes "cart")) ≡ true
    others = (both (not (is_empty name)) _ named).1

    apart : bytes_eq name (codes "cart") ≡ false
    apart = is_false _ (both (not (has_byte 61 name)) _ others).1

    turned : (t : Bool) → bytes_eq (codes "cart") name ≡ t → bytes_eq (codes "cart") name ≡ false
    turned false e = e
    turned true e =
        let same : codes "cart" ≡ name = (bytes_eq-Decides (codes "cart") name).0 e in
        absurd (true≢false (sym ((bytes_eq-Decides name (codes "cart")).1 (sym same)) ∙ apart))

module _ (first name : Text) (k : IsKnown name) where
  abbrev app : App
  app = built (flagged_app first name)

  only : HasNoOtherFlag name app.top.rules
  only = record { long = λ other e. rw e refl; short = λ c. refl; valueless = rw k.same refl; single = refl }

  -- each comparison of the flag's name with itself or with the file's is rewritten by what is known
  flagged_told : (words : List Word) →
      option_map (flagged_row name) (told app name at_first words) ≡ option_map flagged_given (flagged_in words)
  unfolding defaults_fault
  flagged_told [] = simp k.apart refl
  flagged_told (Flag ∷ []) = simp (k.same, k.apart) refl
  flagged_told (Flag ∷ (Flag ∷ words)) = simp k.same refl
  flagged_told (Flag ∷ (Plain x ∷ [])) = rw k.same (simp (k.same, k.apart, k.apart_too) refl)
  flagged_told (Flag ∷ (Plain x ∷ (Flag ∷ words))) = rw k.same (simp (k.same, k.apart, k.apart_too) refl)
  flagged_told (Flag ∷ (Plain x ∷ (Plain y ∷ words))) = rw k.same refl
  flagged_told (Plain x ∷ []) = simp (k.same, k.apart, k.apart_too) refl
  flagged_told (Plain x ∷ (Flag ∷ [])) = simp (k.same, k.apart, k.apart_too) refl
  flagged_told (Plain x ∷ (Flag ∷ (Flag ∷ words))) = simp (k.same, k.apart, k.apart_too) refl
  flagged_told (Plain x ∷ (Flag ∷ (Plain y ∷ words))) = simp (k.same, k.apart, k.apart_too) refl
  flagged_told (Plain x ∷ (Plain y ∷ words)) = refl

  -- what a parse of the words comes to
  pub flagged_read : (words : List Text) → All IsUtf8 words
      → option_map (flagged_row name) (rows_unless (fault_of (flagged_app first name) words) (matches_of (flagged_app first name) words))
      ≡ option_map flagged_given (flagged_of (dashed name) (drop 1 words))
  flagged_read words utf8 =
      ap (option_map (flagged_row name)) (told-apart app name k.is_flag only at_first (drop 1 words) (All-drop IsUtf8 1 words utf8))
      ∙ go (words_of (dashed name) (drop 1 words))
    where
      go : (o : Option (List Word)) →
          option_map (flagged_row name) (option_and_then (told app name at_first) o)
          ≡ option_map flagged_given (option_and_then flagged_in o)
      go None = refl
      go (Some words) = flagged_told words

  pub flagged_simple : is_simple (flagged_app first name) ≡ true
  flagged_simple = refl

  pub flagged_free : is_simple_and_free (flagged_app first name) ≡ true
  flagged_free = refl
