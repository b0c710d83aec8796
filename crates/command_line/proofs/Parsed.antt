-- From what clap ensures of a parse to what the words ask for.
use Rattle.std.proofs.Common.{◌≡◌, ◌∙◌, ◌⊎◌, inl, inr, zero, suc, Bool, true, false, List, [], ◌∷◌, map, Option, Some, None, String}
use Rattle.std.proofs.Common.{codes, string_bytes, IsUtf8, option_map, arith, refl, sym, ap}
use Rattle.std.specs.List.{All}
use Rattle.std.proofs.lemmas.Str.{IsUtf8-string_bytes}
use Rattle.clap.specs.Walk.{Row, Text}
use Rattle.clap.specs.Kinds.{HasKind, Kinds}
use Rattle.clap.specs.Values.{bool_text, kind_of}
use Rattle.clap.specs.declared.error.Error.{Error}
use Rattle.clap.specs.declared.error.kind.ErrorKind.TheVariants.{OutOfMemory}
use Rattle.command_line.proofs.Reading.{rows-given, rows-refused, rows_unless}

-- words are text
pub words_utf8 : {Z : Type 0} (words : List (String Z)) → All IsUtf8 (map string_bytes words)
words_utf8 [] k d lt = absurd (omega arith)
words_utf8 (word ∷ rest) zero d lt = IsUtf8-string_bytes word
words_utf8 (word ∷ rest) (suc k) d lt = words_utf8 rest k d (omega arith)

module _ {A B : Type 0} (read : List Row → B) (seen : A → B) (kinds : Kinds) (rows : List Row) (asked : Option A)
    (known : option_map read (rows_unless kinds rows) ≡ option_map seen asked) where
  -- a parse that gives something gives what is asked
  pub given_is : kinds ≡ [] → option_map seen asked ≡ Some (read rows)
  given_is none = sym known ∙ ap (option_map read) (rows-given kinds rows none)

  -- a parse that fails with memory at hand is one of words that ask for nothing
  pub refused_is : (e : Error) → HasKind kinds e → (kind_of e ≡ OutOfMemory) ⊎ (asked ≡ None)
  refused_is e (inl memory) = inl memory
  refused_is e (inr among) =
      inr (go asked (sym known ∙ ap (option_map read) (rows-refused kinds rows (kind_of e) among)))
    where
      go : (o : Option A) → option_map seen o ≡ None → o ≡ None
      go None e = refl
      go (Some x) e = cc

-- what the flag's value reads as
pub flag_is : (read : Bool) (text : Option Text) (traced : Bool) → text ≡ Some (bool_text traced) →
    (text ≡ Some (codes "true") → read ≡ true)
    → (text ≡ Some (codes "false") → read ≡ false) → read ≡ traced
flag_is read text true is on off = on is
flag_is read text false is on off = off is
