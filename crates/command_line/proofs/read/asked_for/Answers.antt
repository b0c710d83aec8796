-- The first word is no command.
use Rattle.std.proofs.Common.{◌≡◌, ◌∙◌, ◌<◌, Bool, true, false, List, [], ◌∷◌, None, String, string_bytes}
use Rattle.std.proofs.Common.{bytes_eq, drop, get_or, length, map, arith, refl, sym, ap}
use Rattle.std.specs.Prelude.{option_and_then}
use Rattle.std.specs.List.{find}
use Rattle.std.proofs.lemmas.Slice.Eq.{bytes_eq-Decides}
use Rattle.clap.specs.Walk.{Text}
use Rattle.command_line.specs.CommandLine.{CommandWord, command_words, command_of}
use Rattle.command_line.proofs.read.asked_for.Goals as goal

differs : (word other : Text) → (word ≡ other → ⊥) → bytes_eq word other ≡ false
differs word other never = go (bytes_eq word other) refl
  where
    go : (t : Bool) → bytes_eq word other ≡ t → bytes_eq word other ≡ false
    go true e = absurd (never ((bytes_eq-Decides word other).0 e))
    go false e = e

-- a text is the word of none of these commands
abbrev NamesNone : List CommandWord → Text → Type 0
NamesNone [] text = Unit {0}
NamesNone (c ∷ cs) text = (text ≡ c.name → ⊥) × NamesNone cs text

none_named : (cs : List CommandWord) (text : Text) → NamesNone cs text → find (λ c. bytes_eq text c.name) cs ≡ None
none_named [] text none = refl
none_named (c ∷ cs) text none = rw (differs text c.name none.0) (none_named cs text none.1)

-- the first word is no command
unknown : {Z : Type 0} (words : List (String Z)) (name : String Z) (text : Text) → 0 < length words →
    name ≡ get_or words 0 name → text ≡ string_bytes name → NamesNone command_words text →
    None ≡ command_of (map string_bytes words)
unknown [] name text lt at is none = absurd (omega arith)
unknown (word ∷ rest) name text lt at is none =
    let same : string_bytes word ≡ text = sym (is ∙ ap string_bytes at) in
    rw same (sym (ap (option_and_then (λ c. c.asks (map string_bytes rest))) (none_named command_words text none)))

pub returns-in_default-as_str-clause-asked : goal.returns-in_default-as_str-clause-asked
returns-in_default-as_str-clause-asked c =
    let first = c.in-Some.ensures.item in
    let it = c.in_default-as_str in
    let others : NamesNone (drop 7 command_words) c.as_str.result.now =
    (it.not-confirm, (it.not-migrate, (it.not-asm, (it.not-link, (it.not-dis, (it.not-gen, tt)))))) in
    unknown c.args.words.now c.in-Some.name.now c.as_str.result.now first.3.0 first.1 c.as_str.ensures.value
    (it.not-play, (it.not-ref, (it.not-debug, (it.not-audit, (it.not-check, (it.not-verify, (it.not-prove, others)))))))
