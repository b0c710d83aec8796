-- Words that don't fit are none, and those that fit are listed.
use Rattle.std.proofs.Common.{◌≡◌, ◌∙◌, sym, refl}
use Rattle.std.specs.Prelude.{Some}
use Rattle.case_text.specs.EntryWords.{in_pairs}
use Rattle.case_text.proofs.WordCounts.{no_words, few_words}
use Rattle.case_text.proofs.sets.word_set_of.Goals as goal

pub returns-in_default : goal.returns-in_default
returns-in_default c =
    rw (sym c.is_word.ensures ∙ c.if-is_word.false, no_words _ c.in_default.ensures) refl

pub returns : goal.returns
returns c =
    let bytes = c.deref.ensures.0 in
    let words : in_pairs c.in-Some.bytes.items ≡ Some c.in-Some-2.words.items = rw (c.in-Some-2.is, bytes) at (sym c.in_ok-words.ensures) in
    rw (
      sym c.is_word.ensures ∙ c.if-is_word.false,
      c.in-Some.ensures,
      few_words c.in-Some.bytes.items c.in-Some-2.words.items (rw bytes at c.deref.ensures.1) words
          (rw c.deref-2.ensures.value at (sym c.are_words_listed.ensures ∙ c.if-not-are_words_listed.false)),
    )
    refl
